-- Indexes that are gone over one by one.
use Rattle.std.proofs.Common.{◌≡◌, ℕ, suc, ◌+◌, ◌-◌, ◌<◌, ◌≤◌, [], ◌∷◌, arith}
use Rattle.std.specs.List.{range_with_len}

pub range_next : (a b : ℕ) → a < b → range_with_len a (b - a) ≡ a ∷ range_with_len (a + 1) (b - (a + 1))
range_next a b within = let more : b - a ≡ suc (b - (a + 1)) = omega arith in rw more

pub range_done : (a b : ℕ) → b ≤ a → range_with_len a (b - a) ≡ []
range_done a b over = let none : b - a ≡ 0 = omega arith in rw none
