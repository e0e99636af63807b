-- Functions that decide whether a text is a descriptor. The law `descriptors_are_decided` says that they do.
use Rattle.std.specs.Prelude.{ℕ, ◌+◌, ◌-◌, Bool, false, ◌&&◌, ◌||◌, ◌==◌, nat_le, List, [], ◌∷◌, length}
use Rattle.std.specs.Prelude.{take, drop, sum_by, slice_index, Option, Some, None, is_some, option_map, codes, if◌then◌else◌}
use Rattle.std.specs.List.{concat, list_all, list_any}
use Rattle.jc_base.specs.Bytes.{same_bytes}
use Rattle.jc_base.specs.Descriptors.{FieldType, MethodType, base_types, slots_of}
use Rattle.jc_base.specs.FieldsInFront.{fields_of}
use Rattle.jc_base.specs.TextTests.{is_class_text}

-- the number of `[` at the front of the text
unfoldable pub leading_dims : List ℕ → ℕ
leading_dims [] = 0
leading_dims (c ∷ rest) = if c == 91 then 1 + leading_dims rest else 0

-- the text begins with this byte
abbrev pub begins_with : ℕ → List ℕ → Bool
begins_with byte [] = false
begins_with byte (first ∷ rest) = first == byte

-- the text is `L`, a class name and `;`
abbrev pub is_class_type_text : List ℕ → Bool
is_class_type_text b =
    nat_le 2 (length b) && begins_with 76 b && slice_index b (length b - 1) == 59 && is_class_text (take (length b - 2) (drop 1 b))

-- the text is the descriptor of a type that is not an array
abbrev pub is_element_text : List ℕ → Bool
is_element_text b = list_any (λ letter. same_bytes b (letter ∷ [])) base_types || is_class_type_text b

-- the type that a text denotes, if it is a field descriptor
unfoldable pub field_type_of : List ℕ → Option FieldType
field_type_of b =
    if nat_le (leading_dims b) 255 && is_element_text (drop (leading_dims b) b)
    then Some (record { dims = leading_dims b; element = drop (leading_dims b) b })
    else None

abbrev pub is_field_text : List ℕ → Bool
is_field_text b = is_some (field_type_of b)

-- the result that a text denotes, if it is a return descriptor (JVMS 4.3.3): `Some None` for `V`
abbrev pub result_of : List ℕ → Option (Option (List ℕ))
result_of b = if same_bytes b (codes "V") then Some None else (if is_field_text b then Some (Some b) else None)

-- the texts are field descriptors of parameters that take at most 255 slots
abbrev pub are_params : List (List ℕ) → Bool
are_params params = list_all is_field_text params && nat_le (sum_by slots_of params) 255

-- the method type with these parameters, if they are valid and the text after them is `)` and a return descriptor
abbrev pub type_with : List (List ℕ) → List ℕ → Option MethodType
type_with params behind =
    if are_params params && begins_with 41 behind
    then option_map (λ result. record { params = params; result = result }) (result_of (drop 1 behind))
    else None

-- the type that a text denotes, if it is a method descriptor
unfoldable pub method_type_of : List ℕ → Option MethodType
method_type_of b =
    if begins_with 40 b
    then type_with (fields_of (drop 1 b)) (drop (length (concat (fields_of (drop 1 b)))) (drop 1 b))
    else None

abbrev pub is_method_text : List ℕ → Bool
is_method_text b = is_some (method_type_of b)
