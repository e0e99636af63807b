-- The code unit at the front of the bytes, as the reader of modified UTF-8 finds it. The law `first_unit_is_spelled`
-- says that it is the unit that `spelling` encodes there.
use Rattle.std.specs.Prelude.{ℕ, ◌+◌, ◌*◌, ◌%◌, List, ◌==◌, ◌&&◌, ◌||◌, nat_le}
use Rattle.std.specs.Prelude.{if◌then◌else◌, Bool, Option, Some, None, option_and_then, option_map, slice_index}

infixl 10 ◌>>=◌
abbrev ◌>>=◌ : {A B : Type 0} → Option A → (A → Option B) → Option B
o >>= f = option_and_then f o

-- b is at least low and at most high
abbrev pub is_between : ℕ → ℕ → ℕ → Bool
is_between low high b = nat_le low b && nat_le b high

-- the six bits that the byte 10xxxxxx at a place adds to a unit
unfoldable pub six_bits : List ℕ → ℕ → Option ℕ
six_bits bytes place =
    let b = slice_index bytes place in
    if is_between 0x80 0xbf b then Some (b % 64) else None

-- the unit that 110xxxxx 10xxxxxx encodes, unless it has a shorter encoding
unfoldable pub two_byte_unit : ℕ → List ℕ → Option ℕ
two_byte_unit first bytes = do
  low ← six_bits bytes 1
  let unit = first % 32 * 64 + low
  if unit == 0 || nat_le 0x80 unit then Some unit else None

-- the unit that 1110xxxx 10xxxxxx 10xxxxxx encodes, unless it has a shorter encoding
unfoldable pub three_byte_unit : ℕ → List ℕ → Option ℕ
three_byte_unit first bytes = do
  middle ← six_bits bytes 1
  low ← six_bits bytes 2
  let unit = (first % 16 * 64 + middle) * 64 + low
  if nat_le 0x800 unit then Some unit else None

-- the unit at the front, and the number of bytes that encode it, if a unit is encoded there
unfoldable pub first_unit : List ℕ → Option (ℕ × ℕ)
first_unit bytes =
    let first = slice_index bytes 0 in
    if is_between 0x01 0x7f first then Some (first, 1)
    else (if is_between 0xc0 0xdf first then option_map (λ u. (u, 2)) (two_byte_unit first bytes)
    else (if is_between 0xe0 0xef first then option_map (λ u. (u, 3)) (three_byte_unit first bytes)
    else None))
