-- The methods of superinterfaces.
use Rattle.std.proofs.Common.{◌≡◌, ◌∙◌, ℕ, ◌<◌, Bool, true, false, cond, List, [], ◌∷◌, None, Some, length, refl, sym, ap, subst, arith}
use Rattle.std.specs.List.{All, Contains, filter}
use Rattle.jc_graph.proofs.marked.Climbs.{seen_in}
use Rattle.jc_classes.specs.Facts.{Key, Member}
use Rattle.jc_classes.specs.MethodLookup.{given_by, only_inheritable}
use Rattle.jc_classes.specs.Worlds.{Stands, is_interface, member, methods_of}
use Rattle.jc_graph.specs.Seen.{TellsAbove}
use Rattle.jc_numbered.specs.inside.Indexed.{Indexed, IsGraph, indexed_name}
use Rattle.jc_numbered.specs.inside.Picks.{is_interface_at}
use Rattle.jc_numbered.proofs.lookups.Bridge.{above_numbered, filter_in, filter_out, node_in, same_node}
use Rattle.jc_resolve.specs.declared.unimplemented.Search.{Search}
use Rattle.jc_resolve.specs.inside.AbstractMethods.{AreMethods, key_in}
use Rattle.jc_resolve.specs.inside.Unimplemented.{Adds, IsOf}
use Rattle.jc_resolve.proofs.lookups.AbstractLemmas.{get_in}
use Rattle.jc_resolve.proofs.lookups.Choose.{above_listed}

no_some : {X A : Type 0} {a : X} → None ≡ Some a → A
no_some e = absurd cc

-- what an interface declares is declared by an interface
pub given_interface : (s : Stands) (k : Key) {y : Member} → given_by s k ≡ Some y → is_interface s ≡ true
given_interface s k {y = y} e = by (is_interface s) refl e
  where
    by : (b : Bool) → is_interface s ≡ b → cond b (only_inheritable (member (methods_of s) k)) None ≡ Some y → is_interface s ≡ true
    by true q e = q
    by false q e = no_some e

-- all methods for which no method is selected are those of superinterfaces
pub adds_all : (count : ℕ) (x : Indexed) → IsGraph count x → (v : ℕ) → v < count → (flags : List Bool) (list : List ℕ) → TellsAbove count x.supertypes (v ∷ []) flags list
    → (s : Search) → AreMethods count x s.methods → (old new : List ℕ) → Adds x v s.methods.all.items (IsOf s (filter (is_interface_at x) list)) old new
    → Adds x v s.methods.all.items (λ i. i < length s.methods.all.items) old new
adds_all count x graph v l flags list tells s are old new a = record {
  kept = a.kept;
  sound = a.sound;
  complete = λ m index i e within g n.
      let home_in = (are.all.sound e (get_in s.methods.all.items i e g)).0 in
      let p = above_numbered m count x graph index l n.candidate.above in
      let same = same_node m count x graph index (node_in m count x graph index p.1) home_in p.2 in
      let listed : Contains list e.node = subst (Contains list) same (above_listed m count x graph index (key_in e) v l flags list tells p.0 p.1) in
      let is_one : is_interface_at x e.node ≡ true =
      ap is_interface (sym (index.standing e.node (let q = graph.names in omega arith))) ∙ given_interface (m (indexed_name x e.node)) (key_in e) n.candidate.given in
      a.complete m index i e (e.node, filter_in (is_interface_at x) list e.node listed is_one, are.of_class.complete i e within g home_in) g n;
}

-- the interfaces among the supertypes are nodes
pub interfaces_within : (count : ℕ) (x : Indexed) (v : ℕ) (flags : List Bool) (list : List ℕ) → TellsAbove count x.supertypes (v ∷ []) flags list
    → (vs : List ℕ) → vs ≡ filter (is_interface_at x) list → All (λ u. u < count) vs
interfaces_within count x v flags list t vs e =
    subst (λ ns. All (λ u. u < count) ns) (sym e)
    (seen_in count flags list (filter (is_interface_at x) list) t.size t.seen (λ u h. (filter_out (is_interface_at x) list u h).0))
