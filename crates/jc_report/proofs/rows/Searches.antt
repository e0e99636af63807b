-- What a binary search finds in a sorted list is the first that is looked for, or there is none.
use Rattle.std.proofs.Common.{◌≡◌, ◌∙◌, ◌<◌, ◌≤◌, ℕ, zero, suc, Bool, true, false, cond, List, [], ◌∷◌, length, get_or, Some, None, Err, refl, sym, ap, arith}
use Rattle.std.specs.List.{AllByRecursion}
use Rattle.std.specs.List.Sorted.{IsBinarySearchResult, IsNonDecreasingBy, IsStrictlySortedBy}
use Rattle.std.specs.Ordering.{ordering_index}
use Rattle.std.specs.Prelude.{find, nat_lt}
use Rattle.std.proofs.lemmas.Bool.{ltb-true, ltb-false}
use Rattle.std.specs.declared.cmp.Ordering.{Ordering}
use Rattle.std.specs.declared.cmp.Ordering.TheVariants.{Less, Equal, Greater}

less_equal : (o : Ordering) → o ≡ Less → o ≡ Equal → ⊥
less_equal o l e = absurd cc

greater_equal : (o : Ordering) → o ≡ Greater → o ≡ Equal → ⊥
greater_equal o g e = absurd cc

module _ {X : Type 0} (c : X → X → Ordering) (ord : X → Ordering) (is : X → Bool)
    (tests : (x : X) → is x ≡ true → ord x ≡ Equal)
    (found : (x : X) → ord x ≡ Equal → is x ≡ true)
    (apart : (x y : X) → c x y ≡ Less → ord y ≡ Equal → ord x ≡ Less)
    (rises : (x y : X) → c x y ≡ Less → ordering_index (ord x) ≤ ordering_index (ord y)) where
  all_at : (P : X → Type 0) (xs : List X) (i : ℕ) (d : X) → AllByRecursion P xs → i < length xs → P (get_or xs i d)
  all_at P [] i d all lt = absurd (omega (arith, lt))
  all_at P (x ∷ xs) zero d all lt = all.0
  all_at P (x ∷ xs) (suc i) d all lt = all_at P xs i d all.1 (omega (arith, lt))

  rise : (xs : List X) → IsStrictlySortedBy c xs → IsNonDecreasingBy (λ y. ordering_index (ord y)) xs
  unfolding IsStrictlySortedBy
  rise [] sorted i j d le lt = absurd (omega (arith, lt))
  rise (x ∷ xs) sorted zero zero d le lt = omega arith
  rise (x ∷ xs) sorted zero (suc j) d le lt = rises x (get_or xs j d) (all_at (λ y. c x y ≡ Less) xs j d sorted.0 (omega (arith, lt)))
  rise (x ∷ xs) sorted (suc i) zero d le lt = absurd (omega (arith, le))
  rise (x ∷ xs) sorted (suc i) (suc j) d le lt = rise xs sorted.1 i j d (omega (arith, le)) (omega (arith, lt))

  no_other : (x : X) → (ord x ≡ Equal → ⊥) → is x ≡ false
  no_other x apart = by (is x) refl
    where
      by : (b : Bool) → is x ≡ b → is x ≡ false
      by true e = absurd (apart (tests x e))
      by false e = e

  pub found_there : (xs : List X) (i : ℕ) (d : X) → IsStrictlySortedBy c xs → i < length xs → ord (get_or xs i d) ≡ Equal → Some (get_or xs i d) ≡ find is xs
  unfolding IsStrictlySortedBy
  found_there [] i d sorted lt e = absurd (omega (arith, lt))
  found_there (x ∷ xs) zero d sorted lt e = sym (ap (λ b. cond b (Some x) (find is xs)) (found x e))
  found_there (x ∷ xs) (suc i) d sorted lt e =
      let less : ord x ≡ Less = apart x (get_or xs i d) (all_at (λ y. c x y ≡ Less) xs i d sorted.0 (omega (arith, lt))) e in
      found_there xs i d sorted.1 (omega (arith, lt)) e ∙ sym (ap (λ b. cond b (Some x) (find is xs)) (no_other x (less_equal (ord x) less)))

  none : (xs : List X) → ((i : ℕ) (d : X) → i < length xs → ord (get_or xs i d) ≡ Equal → ⊥) → None ≡ find is xs
  none [] differs = refl
  none (x ∷ xs) differs = none xs (λ i d lt. differs (suc i) d (omega (arith, lt))) ∙ sym (ap (λ b. cond b (Some x) (find is xs)) (no_other x (differs zero x (omega arith))))

  pub found_nowhere : (xs : List X) (i : ℕ) → IsStrictlySortedBy c xs → IsBinarySearchResult ord xs (Err i) → None ≡ find is xs
  found_nowhere xs i sorted parted = none xs differs
    where
      by : (k : ℕ) (d : X) → k < length xs → ord (get_or xs k d) ≡ Equal → (b : Bool) → nat_lt k i ≡ b → ⊥
      by k d lt e true below = less_equal (ord (get_or xs k d)) ((parted (rise xs sorted)).0 k d (omega arith) (ltb-true k i below)) e
      by k d lt e false above = greater_equal (ord (get_or xs k d)) ((parted (rise xs sorted)).1 k d (ltb-false k i above) lt) e

      differs : (k : ℕ) (d : X) → k < length xs → ord (get_or xs k d) ≡ Equal → ⊥
      differs k d lt e = by k d lt e (nat_lt k i) refl
