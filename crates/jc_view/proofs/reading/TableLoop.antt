-- Going over a table, as a loop does.
use Rattle.std.proofs.Common.{◌≡◌, ℕ, suc, ◌+◌, ◌-◌, ◌<◌, ◌≤◌, List, Option, Some, None, refl, sym, ◌∙◌, arith}
use Rattle.jc_view.specs.Reading.{after_each}

pub each_more : (one : List ℕ → Option (List ℕ)) (count i : ℕ) (xs ys : List ℕ) (total : Option (List ℕ)) → i < count → one xs ≡ Some ys
    → after_each one (count - i) xs ≡ total → after_each one (count - (i + 1)) ys ≡ total
unfolding after_each
each_more one count i xs ys total lt here so_far =
    let k : count - i ≡ suc (count - (i + 1)) = omega arith in
    let step : after_each one (count - i) xs ≡ after_each one (count - (i + 1)) ys = rw (k, here) refl in
    sym step ∙ so_far

pub each_cut : (one : List ℕ → Option (List ℕ)) (count i : ℕ) (xs : List ℕ) (total : Option (List ℕ)) → i < count → one xs ≡ None
    → after_each one (count - i) xs ≡ total → total ≡ None
unfolding after_each
each_cut one count i xs total lt here so_far =
    let k : count - i ≡ suc (count - (i + 1)) = omega arith in
    let step : after_each one (count - i) xs ≡ None = rw (k, here) refl in
    sym so_far ∙ step

pub each_done : (one : List ℕ → Option (List ℕ)) (count i : ℕ) (xs : List ℕ) (total : Option (List ℕ)) → count ≤ i
    → after_each one (count - i) xs ≡ total → total ≡ Some xs
unfolding after_each
each_done one count i xs total le so_far =
    let k : count - i ≡ 0 = omega arith in
    let step : after_each one (count - i) xs ≡ Some xs = rw k refl in
    sym so_far ∙ step
