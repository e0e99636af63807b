-- A place in bytes that are read from front to back.
use Rattle.std.specs.Prelude.{ℕ, ◌+◌, ◌≤◌, List, length, drop}

-- the place of the next byte, and the bytes that are left
pub record Reading : Type 0 where
  pub place : ℕ
  pub rest : List ℕ

-- at least n bytes are left
abbrev pub HasLeft : ℕ → Reading → Type 0
HasLeft n reading = n ≤ length reading.rest

-- the reading after n more bytes
abbrev pub past : ℕ → Reading → Reading
past n reading = record { place = reading.place + n; rest = drop n reading.rest }
