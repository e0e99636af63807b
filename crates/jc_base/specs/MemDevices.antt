-- The states of devices over memory, as contracts see them.
use Rattle.std.specs.Prelude.{ℕ, ◌-◌, ◌^◌, ◌==◌, Bool, ◌&&◌, not, List, length, min}

-- the bytes that are left, whether reads after them fail or the input ends, and the number of failures
pub record InputState : Type 0 where
  pub remaining : List ℕ
  pub fails : Bool
  pub failures : ℕ

-- the number of bytes that reads may still return; it is at most 2^63 - 1
abbrev pub mem_allowance : InputState → ℕ
mem_allowance input = min (length input.remaining) (2 ^ 63 - 1)

-- no bytes are left, and reads do not fail
abbrev pub has_ended : InputState → Bool
has_ended input = length input.remaining == 0 && not input.fails

-- the bytes that were written, the maximum number of them, and the number of failures
pub record OutputState : Type 0 where
  pub written : List ℕ
  pub room : ℕ
  pub failures : ℕ
