-- Each reference is answered.
use Rattle.std.proofs.Common.{◌≡◌, ◌≢◌, ◌<◌, ◌≤◌, ◌+◌, ℕ, zero, suc, List, [], ◌∷◌, length, map, replicate, get_or, Some, ◌⊎◌, inl, inr, refl, sym, ap, subst, ◌∙◌, arith}
use Rattle.std.proofs.lemmas.List.Sorted.{Contains-permutation, IsPermutation-sym}
use Rattle.std.proofs.lemmas.Option.{slice_get-get_or}
use Rattle.std.specs.List.{All, Contains, slice_get}
use Rattle.std.specs.List.Sorted.{IsPermutation}
use Rattle.jc_classes.specs.Facts.{AreNumbers}

some_is : {X : Type 0} {x y : X} → Some x ≡ Some y → x ≡ y
some_is e = cc

-- ---- in another order

get_or_again : (xs : List ℕ) (i d : ℕ) → i < length xs → get_or xs i (get_or xs i d) ≡ get_or xs i d
get_or_again [] i d l = absurd (omega arith)
get_or_again (x ∷ xs) zero d l = refl
get_or_again (x ∷ xs) (suc i) d l = get_or_again xs i d (omega (arith, l))

within_all : (count : ℕ) (xs : List ℕ) (n : ℕ) → All (λ k. k < count) xs → Contains xs n → n < count
within_all count xs n h c = subst (λ k. k < count) c.2 (h c.0 n c.1)

pub numbers_sorted : (count : ℕ) (order sorted : List ℕ) → IsPermutation order sorted → AreNumbers count order → AreNumbers count sorted
numbers_sorted count order sorted p h = record {
  within = λ i d l.
      let n = get_or sorted i d in
      within_all count order n h.within (Contains-permutation sorted order n (IsPermutation-sym order sorted p) (i, l, get_or_again sorted i d l));
  each = λ n l. Contains-permutation order sorted n p (h.each n l);
}

pub alike : {X Y : Type 0} (y : Y) (xs : List X) → replicate (length xs) y ≡ map (λ (x : X). y) xs
alike y [] = refl
alike y (x ∷ xs) = ap (λ z. y ∷ z) (alike y xs)

-- ---- one after another

-- what holds of those before this one, and of this one, holds of one more
pub done_before : (order : List ℕ) (index : ℕ) (old new : ℕ → Type 0) (this : ℕ) → slice_get order index ≡ Some this
    → ((at : ℕ) → (at ≢ this → old at) → new at)
    → ((i n : ℕ) → i < index → slice_get order i ≡ Some n → old n)
    → (i n : ℕ) → i < index + 1 → slice_get order i ≡ Some n → new n
done_before order index old new this g step h i n l e = by (under i index)
  where
    under : (i n : ℕ) → (i < n) ⊎ (n ≤ i)
    under i n = grind arith

    by : (i < index) ⊎ (index ≤ i) → new n
    by (inl m) = step n (λ other. h i n m e)
    by (inr m) =
        let same : i ≡ index = omega (arith, l, m) in
        let is : n ≡ this = some_is (sym e ∙ subst (λ z. slice_get order z ≡ Some this) (sym same) g) in
        step n (λ other. absurd (other is))

pub done_each : (count : ℕ) (order : List ℕ) (done : ℕ → Type 0) → AreNumbers count order → ((i n : ℕ) → i < length order → slice_get order i ≡ Some n → done n) → (at : ℕ) → at < count → done at
done_each count order done h each at l =
    let place = h.each at l in
    each place.0 at place.1 (slice_get-get_or order place.0 at place.1 ∙ ap Some place.2)

pub number_within : (count : ℕ) (order : List ℕ) (index d : ℕ) → AreNumbers count order → index < length order → get_or order index d < count
number_within count order index d h l = h.within index d l
