-- In a sorted list the first that is looked for is at its place, or there is none.
use Rattle.std.proofs.Common.{◌≡◌, ◌∙◌, ◌+◌, ℕ, zero, suc, Bool, true, false, cond, List, [], ◌∷◌, Option, Some, None, refl, sym, ap, arith}
use Rattle.std.specs.List.{AllByRecursion, slice_get}
use Rattle.std.specs.List.Sorted.{IsStrictlySortedBy}
use Rattle.std.specs.Option.{option_map_or}
use Rattle.std.specs.Prelude.{find, option_and_then}
use Rattle.std.specs.declared.cmp.Ordering.{Ordering}
use Rattle.std.specs.declared.cmp.Ordering.TheVariants.{Less}
use Rattle.std.proofs.lemmas.Bool.{false≢true}

module _ {X : Type 0} (c : X → X → Ordering) (below is : X → Bool)
    (apart : (x : X) → below x ≡ true → is x ≡ false)
    (front_below : (x y : X) → c x y ≡ Less → below y ≡ true → below x ≡ true)
    (front_is : (x y : X) → c x y ≡ Less → is y ≡ true → below x ≡ true) where
  abbrev below_at : List X → ℕ → Bool
  below_at xs n = option_map_or below (slice_get xs n) false

  abbrev if_is : X → Option X
  if_is x = cond (is x) (Some x) None

  -- nothing is after one that is not below
  none_after : (x : X) (ys : List X) → AllByRecursion (λ y. c x y ≡ Less) ys → below x ≡ false → find is ys ≡ None
  none_after x [] all passed = refl
  none_after x (y ∷ ys) all passed = by (none_after x ys all.1 passed) (is y) refl
    where
      by : find is ys ≡ None → (b : Bool) → is y ≡ b → cond (is y) (Some y) (find is ys) ≡ None
      by rest true e = absurd (false≢true (sym passed ∙ front_is x y all.0 e))
      by rest false e = ap (λ b. cond b (Some y) (find is ys)) e ∙ rest

  after : (x : X) (ys : List X) (n : ℕ) → AllByRecursion (λ y. c x y ≡ Less) ys → below_at ys n ≡ true → below x ≡ true
  after x [] zero all e = absurd (false≢true e)
  after x [] (suc n) all e = absurd (false≢true e)
  after x (y ∷ ys) zero all e = front_below x y all.0 e
  after x (y ∷ ys) (suc n) all e = after x ys n all.1 e

  -- if one is below, then so is the first
  front_of : (x : X) (ys : List X) (n : ℕ) → AllByRecursion (λ y. c x y ≡ Less) ys → below_at (x ∷ ys) n ≡ true → below x ≡ true
  front_of x ys zero all e = e
  front_of x ys (suc n) all e = after x ys n all e

  pub found_there : (xs : List X) (place : ℕ) → IsStrictlySortedBy c xs → ((n : ℕ) → n + 1 ≡ place → below_at xs n ≡ true) → below_at xs place ≡ false
      → option_and_then if_is (slice_get xs place) ≡ find is xs
  unfolding IsStrictlySortedBy
  found_there [] place sorted before at = refl
  found_there (x ∷ xs) zero sorted before at = by (is x) refl
    where
      by : (b : Bool) → is x ≡ b → cond (is x) (Some x) None ≡ cond (is x) (Some x) (find is xs)
      by true e = ap (λ b. cond b (Some x) None) e ∙ sym (ap (λ b. cond b (Some x) (find is xs)) e)
      by false e = ap (λ b. cond b (Some x) None) e ∙ sym (ap (λ b. cond b (Some x) (find is xs)) e ∙ none_after x xs sorted.0 at)
  found_there (x ∷ xs) (suc place) sorted before at =
      let first : below x ≡ true = front_of x xs place sorted.0 (before place (omega arith)) in
      found_there xs place sorted.1 (λ n e. before (suc n) (omega (arith, e))) at ∙ sym (ap (λ b. cond b (Some x) (find is xs)) (apart x first))
