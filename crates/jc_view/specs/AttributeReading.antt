-- What is read from the bytes of attributes. The law `attributes_are_read` says that it is what `Attributes` defines.
use Rattle.std.specs.Prelude.{◌≡◌, ◌↔◌, ℕ, ◌+◌, ◌*◌, ◌^◌, ◌&&◌, ◌==◌, nat_lt, List, [], ◌∷◌}
use Rattle.std.specs.Prelude.{◌++◌, length, take, drop, Option, Some, None, if◌then◌else◌, option_and_then}
use Rattle.std.specs.List.{flat_map}
use Rattle.std.specs.Option.{option_map_or}
use Rattle.jc_base.specs.Endian.{big_number}
use Rattle.jc_view.specs.declared.constant_pool.ConstantIndex.{ConstantIndex}
use Rattle.jc_view.specs.declared.attribute_kind.AttributeKind.TheVariants as kinds
use Rattle.jc_view.specs.ConstantPool.{index_value}
use Rattle.jc_view.specs.ClassFile.{ClassFile}
use Rattle.jc_view.specs.Reading.{after, after_table, after_attribute, after_indexes, attribute_value, table_value}
use Rattle.jc_view.specs.Outcome.{AreBytes}
use Rattle.jc_view.specs.Places.{PlacedAttribute, fields_in, methods_in, attributes_in, member_attributes}
use Rattle.jc_view.specs.Attributes.{Bootstrap, Code, Handler, code_attributes, is_recognised}

-- the value that is read from these bytes, if nothing is left after it; `after_it` returns the bytes that are left
abbrev pub whole : {X : Type 0} → (List ℕ → Option (List ℕ)) → (List ℕ → X) → List ℕ → Option X
whole after_it value b = option_and_then (λ rest. if length rest == 0 then Some (value b) else None) (after_it b)

abbrev pub handler_value : List ℕ → Handler
handler_value xs = record {
  start_pc = big_number 2 xs;
  end_pc = big_number 2 (drop 2 xs);
  handler_pc = big_number 2 (drop 4 xs);
  catch_type = index_value (drop 6 xs);
}

abbrev pub code_length : List ℕ → ℕ
code_length xs = big_number 4 (drop 4 xs)

-- the bytes that are left after max_stack, max_locals, code_length and 1 to 65,535 bytes of code
abbrev pub after_instructions : List ℕ → Option (List ℕ)
after_instructions xs =
    option_and_then
    (λ rest. if nat_lt 0 (code_length xs) && nat_lt (code_length xs) (2 ^ 16) then after (code_length xs) rest else None)
    (after 8 xs)

abbrev pub after_handlers : List ℕ → Option (List ℕ)
after_handlers xs = after_table (after 8) xs

unfoldable pub after_code : List ℕ → Option (List ℕ)
after_code xs = option_and_then (after_table after_attribute) (option_and_then after_handlers (after_instructions xs))

-- of the bytes of a Code, those from the exception table on, and those from the table of attributes on. Both begin with
-- the count of the table
abbrev pub handlers_at : List ℕ → List ℕ
handlers_at xs = drop (8 + code_length xs) xs

abbrev pub code_attributes_at : List ℕ → List ℕ
code_attributes_at xs = drop (2 + 8 * big_number 2 (handlers_at xs)) (handlers_at xs)

abbrev pub code_value : List ℕ → Code
code_value xs = record {
  max_stack = big_number 2 xs;
  max_locals = big_number 2 (drop 2 xs);
  code = take (code_length xs) (drop 8 xs);
  handlers = table_value (after 8) handler_value (handlers_at xs);
  attributes = table_value after_attribute attribute_value (code_attributes_at xs);
}

-- the well-formed Code that these bytes are, if they are one (JVMS 4.7.3)
abbrev pub code_in : List ℕ → Option Code
code_in b = whole after_code code_value b

-- the table of indexes of an Exceptions attribute that these bytes are, if they are one (JVMS 4.7.5)
abbrev pub exceptions_in : List ℕ → Option (List ConstantIndex)
exceptions_in b = whole after_indexes (table_value (after 2) index_value) b

unfoldable pub after_bootstrap : List ℕ → Option (List ℕ)
after_bootstrap xs = option_and_then after_indexes (after 2 xs)

abbrev pub bootstrap_value : List ℕ → Bootstrap
bootstrap_value xs = record { method = index_value xs; arguments = table_value (after 2) index_value (drop 2 xs) }

-- the table of bootstrap methods that these bytes are, if they are one (JVMS 4.7.23)
abbrev pub bootstraps_in : List ℕ → Option (List Bootstrap)
bootstraps_in b = whole (after_table after_bootstrap) (table_value after_bootstrap bootstrap_value) b

-- the function `read` returns a content of bytes if and only if the relation holds of the bytes and this content
abbrev pub ReadsExactly : {X : Type 0} → (List ℕ → Option X) → (List ℕ → X → Type 0) → Type 0
ReadsExactly {X = X} read IsContent = (b : List ℕ) (x : X) → AreBytes b → (read b ≡ Some x) ↔ IsContent b x

-- the Code that an attribute contains, if it is recognised as the Code of a method and is well-formed
abbrev pub code_of : ClassFile → PlacedAttribute → Option Code
code_of c a = if is_recognised c kinds.Code a.holder a.attribute then code_in a.attribute.bytes else None

-- an attribute, followed by the attributes of the Code that it contains, if it contains one
abbrev pub with_inner : ClassFile → PlacedAttribute → List PlacedAttribute
with_inner c a = a ∷ option_map_or (code_attributes a) (code_of c a) []

-- all attributes of a class file, even those inside a Code, in ascending order of their places
abbrev pub all_attributes : ClassFile → List PlacedAttribute
all_attributes c =
    flat_map (with_inner c) (flat_map member_attributes (fields_in c))
    ++ flat_map (with_inner c) (flat_map member_attributes (methods_in c))
    ++ flat_map (with_inner c) (attributes_in c)
