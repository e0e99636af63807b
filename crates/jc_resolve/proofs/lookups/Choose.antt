-- The choice among superinterface methods.
use Rattle.std.proofs.Common.{All, ◌≡◌, ℕ, ◌<◌, zero, Bool, true, false, not, ◌&&◌, List, [], ◌∷◌, is_some, Option, Some, None, refl, sym, ap, subst, ◌∙◌, ◌⊎◌, inl, inr, ⊎_elim, arith}
use Rattle.std.proofs.lemmas.Bool.{false≢true}
use Rattle.std.specs.List.{Contains, filter}
use Rattle.jc_classes.specs.Names.{Name, name_less}
use Rattle.jc_classes.proofs.worlds.One.{same_least}
use Rattle.jc_file.specs.AccessFlags.{has, abstract}
use Rattle.jc_classes.specs.Worlds.{World, Found, Above}
use Rattle.jc_classes.specs.Facts.{Member, Key}
use Rattle.jc_classes.specs.MethodLookup.{given_by, IsCandidate, IsMaximal, IsOnly, IsLeast, FindsAbove, FindsAbove as up}
use Rattle.std.proofs.lemmas.List.Elements.{All-contains}
use Rattle.jc_graph.specs.Seen.{flag_at}
use Rattle.jc_numbered.specs.inside.Indexed.{Indexed, indexed_name, IsGraph, IsIndexed}
use Rattle.jc_graph.specs.Graph.{Above as AboveNode}
use Rattle.jc_graph.specs.Seen.{TellsAbove}
use Rattle.jc_numbered.specs.inside.Picks.{gives, offers, is_concrete, is_pick, IsLowest, TellsLowest}
use Rattle.jc_classes.specs.Selection.{DeclaresInstance, SelectsNone}
use Rattle.jc_resolve.specs.inside.Picks.{IsSole, TellsPick, TellsSole}
use Rattle.std.proofs.Math.Dec.{eqb}
use Rattle.std.proofs.lemmas.Bool.Decides.{Decides-eqb}
use Rattle.std.specs.Bool.{Decides}
use Rattle.std.specs.Option.{option_eq}
use Rattle.jc_resolve.specs.inside.Selection.{is_abstract_at, is_abstract_member}
use Rattle.jc_graph.proofs.marked.SeenLemmas.{contains_one}
use Rattle.jc_numbered.proofs.lookups.Bridge.{filter_in, filter_out, named, node_in, above_named, above_numbered, same_node}

some_is : {X : Type 0} (o : Option X) (y : X) → o ≡ Some y → is_some o ≡ true
some_is o y e = ap is_some e

given_some : {X : Type 0} (o : Option X) → is_some o ≡ true → (y : X) × (o ≡ Some y)
given_some None e = absurd (false≢true e)
given_some (Some y) e = (y, refl)

both : (a b : Bool) → (not a && b) ≡ true → (a ≡ false) × (b ≡ true)
both true b e = absurd (false≢true e)
both false b e = (refl, e)

bool_cases : (b : Bool) → (b ≡ true) ⊎ (b ≡ false)
bool_cases true = inl refl
bool_cases false = inr refl

not_true : (b : Bool) → not b ≡ true → b ≡ false
not_true true e = absurd (false≢true e)
not_true false e = refl

module _ (m : World) (count : ℕ) (x : Indexed) (graph : IsGraph count x) (index : IsIndexed m x) (k : Key) (start : ℕ) (within : start < count)
    (flags : List Bool) (list : List ℕ) (tells : TellsAbove count x.supertypes (start ∷ []) flags list) where
  abbrev nodes : List ℕ
  nodes = filter (offers x k) list

  abbrev at_node : ℕ → Member → Found
  at_node v y = record { home = indexed_name x v; member = y }

  listed_above : (v : ℕ) → Contains list v → AboveNode x.supertypes start v
  listed_above v c = let a = (tells.tells v).0 (tells.seen.flagged v c) in subst (λ z. AboveNode x.supertypes z v) (sym (contains_one start a.0 a.1)) a.2

  pub above_listed : (v : ℕ) → AboveNode x.supertypes start v → Contains list v
  above_listed v a = tells.seen.all.listed v ((tells.tells v).1 (start, (zero, omega arith, refl), a))

  given_named : (v : ℕ) → v < count → given_by (m (indexed_name x v)) k ≡ gives x k v
  given_named v l = ap (λ r. given_by r k) (index.standing v (named m count x graph index l))

  listed_in : (v : ℕ) → Contains nodes v → v < count
  listed_in v c = node_in m count x graph index (listed_above v (filter_out (offers x k) list v c).0)

  candidate_out : (v : ℕ) (y : Member) → Contains nodes v → gives x k v ≡ Some y → IsCandidate m k (indexed_name x start) (at_node v y)
  candidate_out v y c e = record {
    above = above_named m count x graph index within (listed_above v (filter_out (offers x k) list v c).0);
    given = given_named v (listed_in v c) ∙ e;
  }

  candidate_in : (g : Found) → IsCandidate m k (indexed_name x start) g → (v : ℕ) × (v < count) × (indexed_name x v ≡ g.home) × Contains nodes v × (gives x k v ≡ Some g.member)
  candidate_in g c =
      let p = above_numbered m count x graph index within c.above in
      let l = node_in m count x graph index p.1 in
      let e = sym (given_named p.0 l) ∙ ap (λ n. given_by (m n) k) p.2 ∙ c.given in
      (p.0, l, p.2, filter_in (offers x k) list p.0 (above_listed p.0 p.1) (some_is _ g.member e), e)

  -- ---- the ABSTRACT method of the interface with the least name

  abbrev abstracts : List ℕ
  abstracts = filter (is_abstract_at x k) nodes

  abstract_out : (v : ℕ) → Contains abstracts v → (y : Member) × Contains nodes v × (gives x k v ≡ Some y) × (has y.flags abstract ≡ true)
  abstract_out v c =
      let p = filter_out (is_abstract_at x k) nodes v c in
      let y = given_some (gives x k v) (filter_out (offers x k) list v p.0).1 in
      (y.0, p.0, y.1, ap is_abstract_member (sym y.1) ∙ p.1)

  abstract_in : (g : Found) → IsCandidate m k (indexed_name x start) g → has g.member.flags abstract ≡ true
      → (v : ℕ) × (v < count) × (indexed_name x v ≡ g.home) × Contains abstracts v
  abstract_in g c e =
      let p = candidate_in g c in
      (p.0, p.1, p.2, filter_in (is_abstract_at x k) nodes p.0 p.3 (ap is_abstract_member p.4 ∙ e))

  pub lowest_in : (home : ℕ) → home < count → SelectsNone m k (indexed_name x start) (indexed_name x home) → IsLowest x abstracts home
  lowest_in home l n =
      let p = abstract_in _ n.candidate n.is_abstract in
      record {
        listed = subst (λ z. Contains abstracts z) (same_node m count x graph index p.1 l p.2) p.3;
        least = λ w c. let q = abstract_out w c in n.least (at_node w q.0) (candidate_out w q.0 q.1 q.2) q.3;
      }

  pub only_lowest : (v w : ℕ) → IsLowest x abstracts v → IsLowest x abstracts w → v ≡ w
  only_lowest v w a b =
      let p = abstract_out v a.listed in
      let q = abstract_out w b.listed in
      same_node m count x graph index (listed_in v p.1) (listed_in w q.1)
      (same_least (indexed_name x v) (indexed_name x w) (b.least v a.listed) (a.least w b.listed))

  pub lowest_refuted : (home : ℕ) (r : Option ℕ) → TellsLowest x abstracts r → option_eq eqb r (Some home) ≡ false → IsLowest x abstracts home → ⊥
  lowest_refuted home None t e low = t home low.listed
  lowest_refuted home (Some w) t e low = false≢true (sym e ∙ (Decides-eqb w home).1 (only_lowest w home t low))

  pub lowest_found : (home : ℕ) (r : Option ℕ) → TellsLowest x abstracts r → option_eq eqb r (Some home) ≡ true → IsLowest x abstracts home
  lowest_found home None t e = absurd (false≢true e)
  lowest_found home (Some w) t e = subst (IsLowest x abstracts) ((Decides-eqb w home).0 e) t

  module _ (covered : List Bool) (rest : List ℕ) (covers : TellsAbove count x.supertypes (filter (offers x k) list) covered rest) where
    maximal_out : (v : ℕ) (y : Member) → Contains nodes v → gives x k v ≡ Some y → flag_at covered v ≡ false → IsMaximal m k (indexed_name x start) (at_node v y)
    maximal_out v y c e f = record {
      candidate = candidate_out v y c e;
      lowest = λ g i a.
          let p = candidate_in g i in
          let q = above_numbered m count x graph index p.1 (subst (λ z. Above m z (indexed_name x v)) (sym p.2) a) in
          let s = same_node m count x graph index (node_in m count x graph index q.1) (listed_in v c) q.2 in
          false≢true (sym f ∙ ap (flag_at covered) (sym s) ∙ (covers.tells q.0).1 (p.0, p.3, q.1));
    }

    maximal_in : (g : Found) → IsMaximal m k (indexed_name x start) g → (v : ℕ) → v < count → indexed_name x v ≡ g.home → flag_at covered v ≡ false
    maximal_in g i v l e = ⊎_elim
        (λ t. let a = (covers.tells v).0 t in let y = given_some (gives x k a.0) (filter_out (offers x k) list a.0 a.1).1 in
        absurd (i.lowest (at_node a.0 y.0) (candidate_out a.0 y.0 a.1 y.1) (subst (λ z. Above m (indexed_name x a.0) z) e (above_named m count x graph index (listed_in a.0 a.1) a.2))))
        (λ t. t)
        (bool_cases (flag_at covered v))

    -- what passes the test is maximal and not abstract, and the other way round
    pick_out : (v : ℕ) (y : Member) → gives x k v ≡ Some y → is_pick x k covered v ≡ true → (flag_at covered v ≡ false) × (has y.flags abstract ≡ false)
    pick_out v y e p = let q = both (flag_at covered v) _ p in (q.0, not_true _ (ap is_concrete (sym e) ∙ q.1))

    pick_in : (v : ℕ) (y : Member) → gives x k v ≡ Some y → flag_at covered v ≡ false → has y.flags abstract ≡ false → is_pick x k covered v ≡ true
    pick_in v y e f a = ap (λ b. not b && is_concrete (gives x k v)) f ∙ ap is_concrete e ∙ ap not a

    -- a maximal method that is not abstract stands at a node that passes
    concrete_in : (g : Found) → IsMaximal m k (indexed_name x start) g → has g.member.flags abstract ≡ false → (v : ℕ) × (v < count) × (indexed_name x v ≡ g.home) × Contains nodes v × (gives x k v ≡ Some g.member) × (is_pick x k covered v ≡ true)
    concrete_in g i a = let p = candidate_in g i.candidate in (p.0, p.1, p.2, p.3, p.4, pick_in p.0 g.member p.4 (maximal_in g i p.0 p.1 p.2) a)

    sole_only : (v : ℕ) (y : Member) → gives x k v ≡ Some y → IsSole (is_pick x k covered) nodes v → IsOnly m k (indexed_name x start) (at_node v y)
    sole_only v y e s = let q = pick_out v y e s.passes in record {
      maximal = maximal_out v y s.listed e q.0;
      concrete = q.1;
      only = λ g i a. let p = concrete_in g i a in sym p.2 ∙ ap (indexed_name x) (s.only p.0 p.3 p.5);
    }

    only_sole : (g : Found) → IsOnly m k (indexed_name x start) g → (v : ℕ) × IsSole (is_pick x k covered) nodes v
    only_sole g i =
        let p = concrete_in g i.maximal i.concrete in (
          p.0,
          record {
            listed = p.3;
            passes = p.5;
            only = λ w c t.
                let y = given_some (gives x k w) (filter_out (offers x k) list w c).1 in
                let q = pick_out w y.0 y.1 t in
                same_node m count x graph index (listed_in w c) p.1 (i.only (at_node w y.0) (maximal_out w y.0 c y.1 q.0) q.1 ∙ sym p.2);
          },
        )

    lowest_least : (v : ℕ) (y : Member) → gives x k v ≡ Some y → IsLowest x nodes v → IsLeast m k (indexed_name x start) (at_node v y)
    lowest_least v y e s = record {
      candidate = candidate_out v y s.listed e;
      least = λ g i. let p = candidate_in g i in ap (λ n. name_less n (indexed_name x v)) (sym p.2) ∙ s.least p.0 p.3;
    }

    pub picked : (v : ℕ) (y : Member) → gives x k v ≡ Some y → TellsPick x k covered nodes (Some v) → FindsAbove m k (indexed_name x start) (Some (at_node v y))
    picked v y e t = ⊎_elim
        (λ s. up.only (sole_only v y e s))
        (λ s. up.least (λ g i. let p = only_sole g i in s.0 p.0 p.1) (lowest_least v y e s.1))
        t

    pub none_picked : TellsPick x k covered nodes None → FindsAbove m k (indexed_name x start) None
    none_picked t = up.nowhere (λ g i. let p = candidate_in g i in t p.0 p.3)

    pub none_out : (home : ℕ) → (DeclaresInstance m k (indexed_name x start) → ⊥) → IsLowest x abstracts home
        → ((v : ℕ) → IsSole (is_pick x k covered) nodes v → ⊥) → SelectsNone m k (indexed_name x start) (indexed_name x home)
    none_out home undeclared low sole =
        let p = abstract_out home low.listed in
        record {
          undeclared = undeclared;
          method = p.0;
          candidate = candidate_out home p.0 p.1 p.2;
          is_abstract = p.3;
          least = λ g c e. let q = abstract_in g c e in ap (λ n. name_less n (indexed_name x home)) (sym q.2) ∙ low.least q.0 q.3;
          without_body = λ f i. let q = only_sole f i in sole q.0 q.1;
        }

    pub none_sole : (home : Name) → SelectsNone m k (indexed_name x start) home → (v : ℕ) → IsSole (is_pick x k covered) nodes v → ⊥
    none_sole home n v s =
        let y = given_some (gives x k v) (filter_out (offers x k) list v s.listed).1 in
        n.without_body (at_node v y.0) (sole_only v y.0 y.1 s)

    pub sole_decided : (home : ℕ) → (DeclaresInstance m k (indexed_name x start) → ⊥) → IsLowest x abstracts home → (r : Option ℕ) (b : Bool) → is_some r ≡ not b
        → TellsSole (is_pick x k covered) nodes r → Decides b (SelectsNone m k (indexed_name x start) (indexed_name x home))
    sole_decided home undeclared low None true e t = (λ h. none_out home undeclared low t, λ n. refl)
    sole_decided home undeclared low None false e t = absurd (false≢true e)
    sole_decided home undeclared low (Some v) true e t = absurd (false≢true (sym e))
    sole_decided home undeclared low (Some v) false e t = (λ h. absurd (false≢true h), λ n. absurd (none_sole (indexed_name x home) n v t))

-- what was picked gives a method
pub picked_offers : (x : Indexed) (k : Key) (list : List ℕ) (covered : List Bool) (v : ℕ) → TellsPick x k covered (filter (offers x k) list) (Some v) → is_some (gives x k v) ≡ true
picked_offers x k list covered v t = (filter_out (offers x k) list v (⊎_elim (λ s. s.listed) (λ s. s.1.listed) t)).1

pub picked_all : (x : Indexed) (k : Key) (P : ℕ → Type 0) (nodes : List ℕ) (covered : List Bool) (v : ℕ) → All P nodes → TellsPick x k covered nodes (Some v) → P v
picked_all x k P nodes covered v a t = All-contains P nodes v a (⊎_elim (λ s. s.listed) (λ s. s.1.listed) t)
