-- The least outside name above a class.
use Rattle.jc_classes.specs.Worlds.{Stands as stands}
use Rattle.std.proofs.Common.{◌≡◌, ℕ, ◌<◌, zero, Bool, List, [], ◌∷◌, Option, Some, None, refl, sym, ap, subst, ◌∙◌, arith}
use Rattle.std.specs.Bool.{Decides}
use Rattle.std.specs.List.{Contains, filter}
use Rattle.jc_classes.specs.Names.{Name, name_less}
use Rattle.jc_classes.specs.Worlds.{World, Stands}
use Rattle.jc_classes.specs.Resolution.{IsOutsideAbove}
use Rattle.jc_numbered.specs.inside.Indexed.{Indexed, indexed_name, standing_of, IsGraph, IsIndexed}
use Rattle.jc_graph.specs.Graph.{Above as AboveNode}
use Rattle.jc_graph.specs.Seen.{TellsAbove}
use Rattle.jc_numbered.specs.inside.Picks.{TellsLowest}
use Rattle.jc_numbered.specs.inside.Outside.{is_outside, lies_outside, TellsOutside}
use Rattle.jc_graph.proofs.marked.SeenLemmas.{contains_one}
use Rattle.jc_numbered.proofs.lookups.Bridge.{filter_in, filter_out, node_in, above_named, above_numbered}

is_out : (s o : Stands) → o ≡ s → Decides (is_outside s) (o ≡ stands.Outside)
is_out (stands.Class r) o e = (λ q. absurd cc, λ q. absurd cc)
is_out stands.Outside o e = (λ q. e, λ q. refl)
is_out stands.Absent o e = (λ q. absurd cc, λ q. absurd cc)

module _ (m : World) (count : ℕ) (x : Indexed) (graph : IsGraph count x) (index : IsIndexed m x)
    (start : ℕ) (within : start < count) (flags : List Bool) (list : List ℕ) (tells : TellsAbove count x.supertypes (start ∷ []) flags list) where
  tells_outside : (v : ℕ) → v < count → Decides (lies_outside x v) (m (indexed_name x v) ≡ stands.Outside)
  tells_outside v l = let e = graph.names in is_out (standing_of x v) (m (indexed_name x v)) (index.standing v (omega arith))

  abbrev nodes : List ℕ
  nodes = filter (lies_outside x) list

  outside_out : (v : ℕ) → Contains nodes v → IsOutsideAbove m (indexed_name x start) (indexed_name x v)
  outside_out v c =
      let p = filter_out (lies_outside x) list v c in
      let a = (tells.tells v).0 (tells.seen.flagged v p.0) in
      let b : AboveNode x.supertypes start v = subst (λ z. AboveNode x.supertypes z v) (sym (contains_one start a.0 a.1)) a.2 in
      let o = (tells_outside v (node_in m count x graph index b)).0 p.1 in
      record { above = above_named m count x graph index within b; outside = o }

  outside_in : (j : Name) → IsOutsideAbove m (indexed_name x start) j → (v : ℕ) × Contains nodes v × (indexed_name x v ≡ j)
  outside_in j i =
      let p = above_numbered m count x graph index within i.above in
      let o = (tells_outside p.0 (node_in m count x graph index p.1)).1 (subst (λ n. m n ≡ stands.Outside) (sym p.2) i.outside) in
      (p.0, filter_in (lies_outside x) list p.0 (tells.seen.all.listed p.0 ((tells.tells p.0).1 (start, (zero, omega arith, refl), p.1))) o, p.2)

  pub outside_of : (r : Option ℕ) → TellsLowest x nodes r → TellsOutside m x (indexed_name x start) r
  outside_of None t = λ j i. let p = outside_in j i in t p.0 p.1
  outside_of (Some v) t = (outside_out v t.listed, λ j i. let p = outside_in j i in ap (λ n. name_less n (indexed_name x v)) (sym p.2) ∙ t.least p.0 p.1)
