-- Counts that stay at their greatest value.
use Rattle.std.proofs.Common.{◌≡◌, ℕ, ◌+◌, ◌<◌, ◌^◌, arith}
use Rattle.jc_link.specs.Meters.{counted}

pub counted_none : (a : ℕ) → a < 2 ^ 64 → a ≡ counted a 0
counted_none a fits = omega arith

pub counted_add : (a k j : ℕ) → counted (counted a k) j ≡ counted a (k + j)
counted_add a k j = omega arith
