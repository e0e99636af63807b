-- Members and attributes with their places. A place is the number of bytes before an element in the file.
use Rattle.std.specs.Prelude.{◌≡◌, ℕ, ◌+◌, Bool, true, false, List, [], ◌∷◌, ◌++◌}
use Rattle.std.specs.Prelude.{length, Option, Some, None, option_and_then, take, drop, slice_get}
use Rattle.std.specs.List.{flat_map}
use Rattle.jc_view.specs.ConstantPool.{Constant, constant_bytes, kind_of, is_wide, index_bytes}
use Rattle.jc_view.specs.declared.constant_pool.ConstantIndex.{ConstantIndex}
use Rattle.jc_view.specs.ClassFile.{ClassFile, layout, Attribute, Member, counted, attribute_bytes, member_bytes}
use Rattle.jc_view.specs.declared.attribute_kind.Holder.{Holder}
use Rattle.jc_view.specs.declared.attribute_kind.Holder.TheVariants as holders

-- an attribute of a class, a field, a method or a Code
pub record PlacedAttribute : Type 0 where
  pub holder : Holder
  pub place : ℕ
  pub attribute : Attribute

pub record PlacedMember : Type 0 where
  pub holder : Holder
  pub place : ℕ
  pub member : Member

-- attributes of a holder with their places; they follow each other, and the first is at this place
unfoldable pub attributes_from : Holder → ℕ → List Attribute → List PlacedAttribute
attributes_from holder place [] = []
attributes_from holder place (a ∷ attributes) =
    record { holder = holder; place = place; attribute = a } ∷ attributes_from holder (place + length (attribute_bytes a)) attributes

unfoldable pub members_from : Holder → ℕ → List Member → List PlacedMember
members_from holder place [] = []
members_from holder place (m ∷ members) =
    record { holder = holder; place = place; member = m } ∷ members_from holder (place + length (member_bytes m)) members

-- ---- where the tables begin; each begins with its count

abbrev pub interfaces_place : ClassFile → ℕ
interfaces_place c = 10 + length (flat_map constant_bytes c.constants) + 6

abbrev pub fields_place : ClassFile → ℕ
fields_place c = interfaces_place c + length (counted index_bytes c.interfaces)

abbrev pub methods_place : ClassFile → ℕ
methods_place c = fields_place c + length (counted member_bytes c.fields)

abbrev pub attributes_place : ClassFile → ℕ
attributes_place c = methods_place c + length (counted member_bytes c.methods)

-- ---- the entries of the tables, after their counts

abbrev pub fields_in : ClassFile → List PlacedMember
fields_in c = members_from holders.Field (fields_place c + 2) c.fields

abbrev pub methods_in : ClassFile → List PlacedMember
methods_in c = members_from holders.Method (methods_place c + 2) c.methods

abbrev pub attributes_in : ClassFile → List PlacedAttribute
attributes_in c = attributes_from holders.Class (attributes_place c + 2) c.attributes

-- the attributes of a member, after its access_flags, name_index, descriptor_index and attributes_count
abbrev pub member_attributes : PlacedMember → List PlacedAttribute
member_attributes m = attributes_from m.holder (m.place + 8) m.member.attributes

-- ---- constants

-- the indexes that a constant takes after its own: a Long or a Double takes one, which is unusable (JVMS 4.4.5)
abbrev pub unusable_index : Bool → List (Option ℕ)
unusable_index true = None ∷ []
unusable_index false = []

-- for each index, the place of its constant, if it has one; the first of the constants is at this place
unfoldable pub places_of : ℕ → List Constant → List (Option ℕ)
places_of place [] = []
places_of place (constant ∷ constants) =
    Some place ∷ (unusable_index (is_wide (kind_of constant)) ++ places_of (place + length (constant_bytes constant)) constants)

-- the place at an index of such a list, if it has one there
abbrev pub place_at : List (Option ℕ) → ConstantIndex → Option ℕ
place_at places index = option_and_then (λ place. place) (slice_get places index.0)

-- the text of the Utf8 constant at an index is a part of the layout, after the tag and the two bytes of its length
pub record IsLent (c : ClassFile) (index : ConstantIndex) (text : List ℕ) : Type 0 where
  pub place : ℕ
  pub begins : place_at (None ∷ places_of 10 c.constants) index ≡ Some place
  pub part : take (length text) (drop (place + 3) (layout c)) ≡ text

-- the contents of an attribute are the part of these bytes after its attribute_name_index and attribute_length
abbrev pub HasBytesAt : List ℕ → PlacedAttribute → Type 0
HasBytesAt bytes a = take (length a.attribute.bytes) (drop (a.place + 6) bytes) ≡ a.attribute.bytes

-- the instructions of the Code at this place are a part of these bytes: they follow attribute_name_index,
-- attribute_length, max_stack, max_locals and code_length
abbrev pub HasInstructionsAt : List ℕ → ℕ → List ℕ → Type 0
HasInstructionsAt bytes place code = take (length code) (drop (place + 14) bytes) ≡ code
