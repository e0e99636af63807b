-- Modified UTF-8 (JVMS 4.4.7): the encoding of a text, which is a list of UTF-16 code units, in bytes.
use Rattle.std.specs.Prelude.{◌≡◌, ℕ, ◌+◌, ◌/◌, ◌%◌, ◌^◌, ◌<◌, ◌≤◌}
use Rattle.std.specs.Prelude.{List, [], ◌∷◌, length, take, if◌then◌else◌, ◌&&◌, nat_lt}
use Rattle.std.specs.List.{flat_map, AllByRecursion}
use Rattle.jc_base.specs.declared.modified_utf8.UnitsError.{UnitsError}
use Rattle.jc_base.specs.declared.modified_utf8.UnitsError.TheVariants.{Bad, NoMemory}

-- a UTF-16 code unit
abbrev pub IsUnit : ℕ → Type 0
IsUnit u = u < 2 ^ 16

-- the bytes of a unit: one for 0x0001 to 0x007f, two for 0x0000 and for 0x0080 to 0x07ff, and three for greater units
unfoldable pub spelling : ℕ → List ℕ
spelling u =
    if nat_lt 0 u && nat_lt u 0x80 then u ∷ []
    else (if nat_lt u 0x800 then (0xc0 + u / 64) ∷ (0x80 + u % 64) ∷ []
    else (0xe0 + u / 4096) ∷ (0x80 + u / 64 % 64) ∷ (0x80 + u % 64) ∷ [])

-- the bytes of the units
abbrev pub spelled : List ℕ → List ℕ
spelled us = flat_map spelling us

-- these bytes encode these units
abbrev pub Spells : List ℕ → List ℕ → Type 0
Spells us b = AllByRecursion IsUnit us × (b ≡ spelled us)

-- these bytes are modified UTF-8
abbrev pub IsWellSpelled : List ℕ → Type 0
IsWellSpelled b = (us : List ℕ) × Spells us b

-- the first n bytes are modified UTF-8; more bytes follow, and no longer prefix is modified UTF-8
pub record IsLongestFront (b : List ℕ) (n : ℕ) : Type 0 where
  pub within : n < length b
  pub front : IsWellSpelled (take n b)
  pub longest : (m : ℕ) → n < m → m ≤ length b → ¬ IsWellSpelled (take m b)

abbrev pub units_error_code : UnitsError → ℕ
units_error_code (Bad place) = 1
units_error_code NoMemory = 2
