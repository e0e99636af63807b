-- Texts and paths as printable ASCII.
use Rattle.std.specs.Prelude.{ℕ, Bool, not, ◌==◌, ◌&&◌, nat_le, List, [], ◌∷◌, ◌++◌, if◌then◌else◌, codes}
use Rattle.std.specs.Int.{to_be_bytes, w16}
use Rattle.std.specs.List.{flat_map}
use Rattle.std.specs.Option.{option_map_or}
use Rattle.jc_base.specs.TextTests.{units_of}
use Rattle.jc_text.specs.Numbers.{hexadecimal}

-- the character is printable ASCII, and is not a backslash
abbrev pub is_plain : ℕ → Bool
is_plain c = nat_le 0x20 c && (nat_le c 0x7e && not (c == 92))

-- the text of a byte of a path: the character, or an escape such as `\x0a`
abbrev pub path_byte_text : ℕ → List ℕ
path_byte_text b =
    if is_plain b then b ∷ []
    else (if b == 92 then codes "\\\\" else codes "\\x" ++ hexadecimal (b ∷ []))

abbrev pub path_text : List ℕ → List ℕ
path_text path = flat_map path_byte_text path

-- the text of a code unit: the character, or an escape such as `\u000a`
abbrev pub unit_text : ℕ → List ℕ
unit_text u =
    if is_plain u then u ∷ []
    else (if u == 92 then codes "\\\\" else codes "\\u" ++ hexadecimal (to_be_bytes w16 u))

-- the text by its code units (JVMS 4.4.7). If it is not modified UTF-8, `!` and its bytes in hexadecimal
abbrev pub shown : List ℕ → List ℕ
shown text = option_map_or (flat_map unit_text) (units_of text) (codes "!" ++ hexadecimal text)
