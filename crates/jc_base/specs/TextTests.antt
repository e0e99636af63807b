-- Functions that decide whether a text is a name. The law `texts_are_decided` says that they do.
use Rattle.std.specs.Prelude.{ℕ, zero, suc, Bool, ◌==◌, ◌&&◌, ◌||◌, not, List, [], ◌∷◌}
use Rattle.std.specs.Prelude.{length, drop, Option, Some, None, option_and_then, option_map, is_some, codes}
use Rattle.std.specs.List.{list_all, list_any, slice_split}
use Rattle.jc_base.specs.FirstUnit.{first_unit}
use Rattle.jc_base.specs.Bytes.{same_bytes}
use Rattle.jc_base.specs.Names.{name_stops, method_name_stops}

-- the code units that a text encodes, if it is modified UTF-8 and has at most n of them
unfoldable pub units_within : ℕ → List ℕ → Option (List ℕ)
units_within n [] = Some []
units_within zero (x ∷ xs) = None
units_within (suc n) (x ∷ xs) =
    option_and_then
    (λ first. option_map (λ others. first.0 ∷ others) (units_within n (drop first.1 (x ∷ xs))))
    (first_unit (x ∷ xs))

-- the code units that a text encodes, if it is modified UTF-8
abbrev pub units_of : List ℕ → Option (List ℕ)
units_of b = units_within (length b) b

-- the text contains none of these characters
abbrev pub has_none_of : List ℕ → List ℕ → Bool
has_none_of characters b = list_all (λ c. not (list_any (λ s. s == c) characters)) b

abbrev pub is_unqualified_text : List ℕ → Bool
is_unqualified_text b =
    is_some (units_of b) && (not (length b == 0) && has_none_of name_stops b)

abbrev pub is_method_name_text : List ℕ → Bool
is_method_name_text b =
    same_bytes b (codes "<init>") || same_bytes b (codes "<clinit>") || is_unqualified_text b && has_none_of method_name_stops b

-- each of the parts that `/` separates is an unqualified name
abbrev pub is_class_text : List ℕ → Bool
is_class_text b = list_all is_unqualified_text (slice_split (λ c. c == 47) b)
