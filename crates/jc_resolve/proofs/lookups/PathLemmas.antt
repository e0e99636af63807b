-- Paths of superclasses.
use Rattle.std.proofs.Common.{◌≡◌, ◌∙◌, ℕ, ◌<◌, ◌+◌, true, List, [], ◌∷◌, ◌++◌, None, Option, Some, length, refl, sym, ap, subst, ⊎_elim, arith}
use Rattle.std.specs.Prelude.{slice_get}
use Rattle.jc_numbered.specs.inside.FinalSearches.{IsPath, last_of}
use Rattle.std.specs.Option.{option_map_or}
use Rattle.jc_numbered.specs.inside.Indexed.{Indexed, IsGraph, good_at, rank_at, superclass_at}
use Rattle.jc_numbered.proofs.lookups.Chain.{super_falls}
use Rattle.jc_numbered.proofs.lookups.FinalSearchLemmas.{get_end, get_push, last_push, path_back, path_done}
use Rattle.jc_graph.specs.Graph.{successors_of}
use Rattle.jc_resolve.specs.declared.unimplemented.Search.{Search}
use Rattle.jc_resolve.specs.inside.Unimplemented.{HasList, IsAboveList, IsPathTo, TellsList}
use Rattle.jc_resolve.proofs.lookups.SearchLemmas.{there_within}

some_is : {X : Type 0} {a b : X} → Some a ≡ Some b → a ≡ b
some_is e = cc

no_some : {X A : Type 0} {a : X} → None ≡ Some a → A
no_some e = absurd cc

empty_is : {X : Type 0} (xs : List X) → length xs ≡ 0 → xs ≡ []
empty_is [] e = refl
empty_is (x ∷ xs) e = absurd (omega (arith, e))

pub path_begins : (count : ℕ) (x : Indexed) (class : ℕ) (above : Option ℕ) → IsPath count x class [] above
path_begins count x class above = record {
  nodes = λ p v e. no_some e;
  good = λ p v e. no_some e;
  first = λ v e. no_some e;
  next = λ p v w e f. no_some e;
  top = λ v e. no_some e;
}

-- the class that is next is appended
pub path_push : (count : ℕ) (x : Indexed) (class : ℕ) (path : List ℕ) (v : ℕ) → IsPath count x class path (Some v) → (path ≡ [] → v ≡ class) → v < count → good_at x v ≡ true
    → IsPath count x class (path ++ v ∷ []) (superclass_at x v)
path_push count x class path v is empty l g = record {
  nodes = λ p w h. ⊎_elim (λ a. is.nodes p w a) (λ q. subst (λ z. z < count) (sym q.1) l) (get_push path v p h);
  good = λ p w h. ⊎_elim (λ a. is.good p w a) (λ q. ap (good_at x) q.1 ∙ g) (get_push path v p h);
  first = λ w h. ⊎_elim (λ a. is.first w a) (λ q. q.1 ∙ empty (empty_is path (let z = q.0 in omega arith))) (get_push path v 0 h);
  next = λ p a b h i. ⊎_elim
      (λ r. is.next p a b (⊎_elim (λ z. z) (λ q. let w = there_within path (p + 1) b r in let z = q.0 in absurd (omega arith)) (get_push path v p h)) r)
      (λ r. ⊎_elim
      (λ q. is.top a (ap (slice_get path) (let z = r.0 in omega arith) ∙ q) ∙ ap Some (sym r.1))
      (λ q. let z = r.0 in let y = q.0 in absurd (omega arith))
      (get_push path v p h))
      (get_push path v (p + 1) i);
  top = λ w h. ap (superclass_at x) (some_is (sym h ∙ last_push path v));
}

pub measure_falls : (count : ℕ) (x : Indexed) → IsGraph count x → (v : ℕ) → good_at x v ≡ true → (o : Option ℕ) → o ≡ superclass_at x v
    → option_map_or (λ (w : ℕ). rank_at x w + 1) o 0 < rank_at x v + 1
measure_falls count x graph v g None e = omega arith
measure_falls count x graph v g (Some w) e = let q = super_falls count x graph v w g (sym e) in omega arith

-- ---- the last class of a path is taken

module _ (count : ℕ) (x : Indexed) (graph : IsGraph count x) (s : Search) (class : ℕ) (path rest : List ℕ) (v number : ℕ) (is : IsPathTo count x s class path number)
    (popped : path ≡ rest ++ v ∷ []) where
  last_is : last_of path ≡ Some v
  last_is = ap last_of popped ∙ last_push rest v

  super_is_above : superclass_at x v ≡ is.above
  super_is_above = is.path.top v last_is

  place : slice_get path (length rest) ≡ Some v
  place = ap (λ l. slice_get l (length rest)) popped ∙ get_end rest v

  pub popped_in : v < count
  popped_in = is.path.nodes (length rest) v place

  pub popped_good : good_at x v ≡ true
  popped_good = is.path.good (length rest) v place

  pub popped_above : IsAboveList x v s number
  popped_above = record {
    within = is.within;
    none = λ e. is.none (sym super_is_above ∙ e);
    some = λ w e. is.some w (sym super_is_above ∙ e);
  }

  -- its list is known, and the path goes on without it
  pub popped_path : (new : Search) (found : ℕ) → HasList x v new found → IsPathTo count x new class rest found
  popped_path new found has = record {
    above = Some v;
    path = path_back count x graph class path rest v is.above is.path popped;
    within = has.0;
    none = λ e. absurd cc;
    some = λ w e. subst (λ z. TellsList x new.methods.all.items z (successors_of new.lists.items found)) (some_is e) has.1;
    empty = λ e. subst (λ z. TellsList x new.methods.all.items z (successors_of new.lists.items found))
        (path_done count x graph class path rest v is.above is.path popped (ap length e)) has.1;
  }
