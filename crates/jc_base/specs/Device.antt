-- How the calls of a device change its number of failures and the bytes that were written.
use Rattle.std.specs.Prelude.{ℕ, ◌+◌, ◌-◌, ◌^◌, ◌<◌, ◌≤◌, ◌≡◌}
use Rattle.std.specs.Prelude.{max, min, List, length, take, Result, Option, MatchResult}
use Rattle.std.specs.Io.KnownBytes.{Appends}

-- the count plus n, but at most 2^64 - 1
abbrev pub more : ℕ → ℕ → ℕ
more count n = max count (min (count + n) (2 ^ 64 - 1))

-- one more failure was counted
abbrev pub MoreFaults : ℕ → ℕ → Type 0
MoreFaults old new = new ≡ more old 1

-- `Ok` leaves the number of failures as it is, and `Err` adds one to it
abbrev pub CountsFault : {T E : Type 0} → Result T E → ℕ → ℕ → Type 0
CountsFault result old new = MatchResult result (λ _. new ≡ old) (λ _. MoreFaults old new × (old ≤ new))

-- a proper prefix of the text was appended to the bytes that are known to be written
abbrev pub WritesFront : Option (List ℕ) → Option (List ℕ) → List ℕ → Type 0
WritesFront old new text = (n : ℕ) × (n < length text) × Appends old new (take n text)
