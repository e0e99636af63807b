-- The field descriptors at the front of some bytes, delimited by their `[`, letters and `;` (JVMS 4.3.2). Names of
-- classes are not tested here; `method_type_of` tests them.
use Rattle.std.specs.Prelude.{ℕ, ◌+◌, ◌==◌, List, [], ◌∷◌, length, take, drop, position}
use Rattle.std.specs.Prelude.{slice_index, zero, suc, Option, Some, None, if◌then◌else◌}
use Rattle.std.specs.Option.{option_map, option_map_or}
use Rattle.std.specs.List.{list_any}
use Rattle.jc_base.specs.Descriptors.{base_types}

-- the length of the descriptor at the front, of a type that is not an array
unfoldable pub element_len : List ℕ → Option ℕ
element_len b =
    let first = slice_index b 0 in
    if first == 76 then option_map (λ n. 2 + n) (position (λ c. c == 59) (drop 1 b))
    else (if list_any (λ c. c == first) base_types then Some 1 else None)

-- the length of the descriptor at the front, if one begins there
unfoldable pub field_len : List ℕ → Option ℕ
field_len [] = None
field_len (c ∷ rest) =
    if c == 91 then option_map (λ n. 1 + n) (field_len rest) else element_len (c ∷ rest)

-- at most n descriptors that follow each other
abbrev pub fields_within : ℕ → List ℕ → List (List ℕ)
fields_within zero b = []
fields_within (suc fuel) b =
    option_map_or (λ n. take n b ∷ fields_within fuel (drop n b)) (field_len b) []

-- the descriptors at the front, which follow each other
unfoldable pub fields_of : List ℕ → List (List ℕ)
fields_of b = fields_within (length b) b
