-- The counts of a meter.
use Rattle.std.specs.Prelude.{ℕ, ◌+◌, ◌-◌, ◌^◌, min}

-- a count after n more; it stops at 2^64 - 1
abbrev pub counted : ℕ → ℕ → ℕ
counted old n = min (old + n) (2 ^ 64 - 1)

-- the number of look-ups in a table, and the number of parts that were computed
pub record Counts : Type 0 where
  pub asks : ℕ
  pub made : ℕ
