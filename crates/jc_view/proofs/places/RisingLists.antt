-- Lists whose items have rising numbers, within bounds.
use Rattle.std.proofs.Common.{ℕ, zero, suc, ◌+◌, ◌≤◌, Bool, true, false, cond, List, [], ◌∷◌, ◌++◌, map, filter, arith}
use Rattle.std.specs.List.{range_with_len}

-- from lo on, and below hi
abbrev pub RisesBy : {X : Type 0} → (X → ℕ) → ℕ → ℕ → List X → Type 0
RisesBy number lo hi [] = lo ≤ hi
RisesBy number lo hi (x ∷ xs) = (lo ≤ number x) × RisesBy number (number x + 1) hi xs

module _ {X : Type 0} (number : X → ℕ) where
  pub rises_lower : (lo up hi : ℕ) (xs : List X) → lo ≤ up → RisesBy number up hi xs → RisesBy number lo hi xs
  rises_lower lo up hi [] le h = omega arith
  rises_lower lo up hi (x ∷ xs) le h = (omega (arith, h.0), h.1)

  pub rises_higher : (lo hi up : ℕ) (xs : List X) → hi ≤ up → RisesBy number lo hi xs → RisesBy number lo up xs
  rises_higher lo hi up [] le h = omega arith
  rises_higher lo hi up (x ∷ xs) le h = (h.0, rises_higher (number x + 1) hi up xs le h.1)

  pub rises_bounds : (lo hi : ℕ) (xs : List X) → RisesBy number lo hi xs → lo ≤ hi
  rises_bounds lo hi [] h = h
  rises_bounds lo hi (x ∷ xs) h = let others = rises_bounds (number x + 1) hi xs h.1 in omega (arith, h.0, others)

  pub rises-append : (lo mid hi : ℕ) (xs ys : List X) → RisesBy number lo mid xs → RisesBy number mid hi ys → RisesBy number lo hi (xs ++ ys)
  rises-append lo mid hi [] ys h k = rises_lower lo mid hi ys h k
  rises-append lo mid hi (x ∷ xs) ys h k = (h.0, rises-append (number x + 1) mid hi xs ys h.1 k)

  rises_if : (lo hi : ℕ) (b : Bool) (x : X) (xs : List X) → lo ≤ number x → RisesBy number (number x + 1) hi xs → RisesBy number lo hi (cond b (x ∷ xs) xs)
  rises_if lo hi true x xs le h = (le, h)
  rises_if lo hi false x xs le h = rises_lower lo (number x + 1) hi xs (omega arith) h

  pub rises-filter : (test : X → Bool) (lo hi : ℕ) (xs : List X) → RisesBy number lo hi xs → RisesBy number lo hi (filter test xs)
  rises-filter test lo hi [] h = h
  rises-filter test lo hi (x ∷ xs) h = rises_if lo hi (test x) x (filter test xs) h.0 (rises-filter test (number x + 1) hi xs h.1)

  pub rises-map : (lo hi : ℕ) (xs : List X) → RisesBy number lo hi xs → RisesBy (λ n. n) lo hi (map number xs)
  rises-map lo hi [] h = h
  rises-map lo hi (x ∷ xs) h = (h.0, rises-map (number x + 1) hi xs h.1)

pub rises-range : (lo n : ℕ) → RisesBy (λ k. k) lo (lo + n) (range_with_len lo n)
rises-range lo zero = omega arith
rises-range lo (suc n) = (omega arith, rises_higher (λ k. k) (lo + 1) (lo + 1 + n) (lo + suc n) (range_with_len (lo + 1) n) (omega arith) (rises-range (lo + 1) n))
