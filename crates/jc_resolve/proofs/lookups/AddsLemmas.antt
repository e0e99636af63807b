-- Methods that are added to a list.
use Rattle.std.proofs.Common.{◌≡◌, ℕ, ◌<◌, ◌+◌, zero, List, [], ◌∷◌, ◌++◌, Some, length, take, sym, subst, ◌⊎◌, inl, inr, ⊎_elim, arith}
use Rattle.std.specs.List.{Contains}
use Rattle.std.specs.Prelude.{slice_get, slice_index_or}
use Rattle.std.proofs.lemmas.List.{take_more}
use Rattle.std.proofs.lemmas.List.Elements.{Contains-append_left, Contains-append_right}
use Rattle.jc_classes.specs.Worlds.{World}
use Rattle.jc_numbered.specs.inside.Indexed.{Indexed, IsIndexed, indexed_name}
use Rattle.jc_classes.specs.Selection.{SelectsNone}
use Rattle.jc_resolve.specs.declared.abstract_methods.AbstractMethod.{AbstractMethod}
use Rattle.jc_resolve.specs.inside.AbstractMethods.{key_in}
use Rattle.jc_resolve.specs.inside.Unimplemented.{Adds, Selected}
use Rattle.jc_resolve.proofs.lookups.AbstractLemmas.{only_in, split_in}

module _ (x : Indexed) (v : ℕ) (all : List AbstractMethod) where
  pub adds_none : (P : ℕ → Type 0) (old : List ℕ)
      → ((m : World) → IsIndexed m x → (i : ℕ) (e : AbstractMethod) → P i → slice_get all i ≡ Some e
      → SelectsNone m (key_in e) (indexed_name x v) (indexed_name x e.node) → ⊥)
      → Adds x v all P old old
  adds_none P old never = record {
    kept = λ i h. h;
    sound = λ i h. inl h;
    complete = λ m h i e p g s. absurd (never m h i e p g s);
  }

  pub adds_one : (n : ℕ) (old : List ℕ) → Selected x v all n → Adds x v all (λ i. i ≡ n) old (old ++ n ∷ [])
  adds_one n old is = record {
    kept = λ i h. Contains-append_left old (n ∷ []) i h;
    sound = λ i h. ⊎_elim inl (λ o. inr (subst (Selected x v all) (only_in n i o) is)) (split_in old (n ∷ []) i h);
    complete = λ m h i e p g s. Contains-append_right old (n ∷ []) i (zero, omega arith, sym p);
  }

  pub adds_then : (P Q R : ℕ → Type 0) (old mid new : List ℕ) → Adds x v all P old mid → Adds x v all Q mid new → ((i : ℕ) → R i → P i ⊎ Q i) → Adds x v all R old new
  adds_then P Q R old mid new a b join = record {
    kept = λ i h. b.kept i (a.kept i h);
    sound = λ i h. ⊎_elim (a.sound i) inr (b.sound i h);
    complete = λ m h i e r g s. ⊎_elim (λ p. b.kept i (a.complete m h i e p g s)) (λ q. b.complete m h i e q g s) (join i r);
  }

  pub adds_weaker : (P Q : ℕ → Type 0) (old new : List ℕ) → Adds x v all P old new → ((i : ℕ) → Q i → P i) → Adds x v all Q old new
  adds_weaker P Q old new a weaker = record {
    kept = a.kept;
    sound = a.sound;
    complete = λ m h i e q g s. a.complete m h i e (weaker i q) g s;
  }

-- one more element is taken
pub taken_cases : (ns : List ℕ) (n i : ℕ) → n < length ns → Contains (take (n + 1) ns) i → Contains (take n ns) i ⊎ (i ≡ slice_index_or ns n 0)
taken_cases ns n i l h = ⊎_elim inl (λ o. inr (sym (only_in (slice_index_or ns n 0) i o)))
    (split_in (take n ns) (slice_index_or ns n 0 ∷ []) i (subst (λ z. Contains z i) (take_more ns n 0 l) h))
