-- What is known about the texts of a class file.
use Rattle.std.specs.Prelude.{◌≡◌, ℕ, Bool, true, false, ◌&&◌, ◌||◌, nat_lt, List, Option, Some, None, is_some, option_map, slice_get, sum_by}
use Rattle.std.specs.Option.{option_map_or}
use Rattle.jc_base.specs.Descriptors.{FieldType, MethodType, slots_of}
use Rattle.jc_base.specs.TextTests.{is_unqualified_text, is_class_text, is_method_name_text, units_of}
use Rattle.jc_base.specs.DescriptorTests.{field_type_of, method_type_of}
use Rattle.jc_view.specs.declared.constant_pool.ConstantIndex.{ConstantIndex}
use Rattle.jc_view.specs.ClassFile.{ClassFile}
use Rattle.jc_view.specs.Lookups.{fails, utf8_at}
use Rattle.jc_file.specs.declared.texts.Known.{Known}
use Rattle.jc_file.specs.declared.texts.Descriptor.{Descriptor}
use Rattle.jc_file.specs.declared.texts.Descriptor.TheVariants.{Field, Method, Other}
use Rattle.jc_file.specs.declared.texts.Texts.TheInside as known

-- a method descriptor, or no descriptor
abbrev pub as_method : Option MethodType → Descriptor
as_method None = Other
as_method (Some type) = Method (sum_by slots_of type.params) (is_some type.result)

-- a field descriptor, or otherwise the other one
abbrev pub as_field : Option FieldType → Descriptor → Descriptor
as_field None otherwise = otherwise
as_field (Some type) otherwise = Field type.dims

-- which descriptor a text is
abbrev pub descriptor_of : List ℕ → Descriptor
descriptor_of text = as_field (field_type_of text) (as_method (method_type_of text))

abbrev pub is_field : Descriptor → Bool
is_field (Field dims) = true
is_field descriptor = false

abbrev pub is_array : Descriptor → Bool
is_array (Field dims) = nat_lt 0 dims
is_array descriptor = false

abbrev pub is_method : Descriptor → Bool
is_method (Method slots with_value) = true
is_method descriptor = false

abbrev pub returns : Descriptor → Bool
returns (Method slots with_value) = with_value
returns descriptor = false

-- the parameters take at most 255 slots, with the receiver if there is one
abbrev pub fits : Bool → Descriptor → Bool
fits has_none (Method slots with_value) = has_none || nat_lt slots 255
fits has_none descriptor = false

-- the name exists and does not fit the descriptor
abbrev pub fails_with : Descriptor → Option (List ℕ) → Bool
fails_with descriptor name =
    is_field descriptor && fails is_unqualified_text name || is_method descriptor && fails is_method_name_text name

-- the text is modified UTF-8
abbrev pub is_spelled : List ℕ → Bool
is_spelled text = is_some (units_of text)

abbrev pub is_yes : Option Bool → Bool
is_yes answer = option_map_or (λ b. b) answer false

abbrev pub is_descriptor : Option Descriptor → Bool
is_descriptor answer = option_map_or (λ descriptor. is_field descriptor || is_method descriptor) answer false

-- the text is known to be a name or a descriptor
abbrev pub is_known_text : Known → Bool
is_known_text k = is_yes k.is_class || is_yes k.is_unqualified || is_yes k.is_method_name || is_descriptor k.descriptor

-- a result of `f` that is known is its result for the text at the index
abbrev pub IsAnswer : {A : Type 0} → (List ℕ → A) → ClassFile → ConstantIndex → Option A → Type 0
IsAnswer {A = A} f c index known = (a : A) → known ≡ Some a → option_map f (utf8_at c index) ≡ Some a

pub record IsKnown (c : ClassFile) (index : ConstantIndex) (k : Known) : Type 0 where
  pub is_class : IsAnswer is_class_text c index k.is_class
  pub is_unqualified : IsAnswer is_unqualified_text c index k.is_unqualified
  pub is_method_name : IsAnswer is_method_name_text c index k.is_method_name
  pub descriptor : IsAnswer descriptor_of c index k.descriptor

abbrev pub AllKnown : ClassFile → List Known → Type 0
AllKnown c known = (i : ℕ) (k : Known) → slice_get known i ≡ Some k → IsKnown c (record { 0 = i }) k

abbrev pub AreKnown : known.Inside → Type 0
AreKnown t = AllKnown t.class.now t.known.items
