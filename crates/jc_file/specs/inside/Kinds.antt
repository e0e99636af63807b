-- The length of attributes of a kind, and the constants that they name.
use Rattle.std.specs.Prelude.{ℕ, Bool, false, not, ◌&&◌, ◌||◌, ◌==◌, length, Option, Some, None}
use Rattle.std.specs.Option.{option_map_or}
use Rattle.jc_view.specs.declared.attribute_kind.AttributeKind.{AttributeKind}
use Rattle.jc_view.specs.declared.attribute_kind.AttributeKind.TheVariants as kinds
use Rattle.jc_view.specs.declared.constant_pool.ConstantKind.TheVariants as constants
use Rattle.jc_view.specs.Attributes.{first_index, second_index}
use Rattle.jc_view.specs.ClassFile.{Attribute, ClassFile}
use Rattle.jc_view.specs.Lookups.{is_entry}
use Rattle.jc_view.specs.Places.{PlacedAttribute}
use Rattle.jc_file.specs.FormatRules.{lacks_method}

abbrev pub length_of : AttributeKind → Option ℕ
length_of kinds.ConstantValue = Some 2
length_of kinds.SourceFile = Some 2
length_of kinds.Signature = Some 2
length_of kinds.EnclosingMethod = Some 4
length_of kinds.Synthetic = Some 0
length_of kinds.Deprecated = Some 0
length_of kind = None

abbrev pub has_other_length : AttributeKind → Attribute → Bool
has_other_length kind a = option_map_or (λ len. not (length a.bytes == len)) (length_of kind) false

abbrev pub names_no_text : ClassFile → PlacedAttribute → Bool
names_no_text c a = length a.attribute.bytes == 2 && not (is_entry c constants.Utf8 (first_index a))

abbrev pub names_no_method : ClassFile → PlacedAttribute → Bool
names_no_method c a =
    length a.attribute.bytes == 4 && (not (is_entry c constants.Class (first_index a)) || lacks_method c (second_index a))

abbrev pub names_other : AttributeKind → ClassFile → PlacedAttribute → Bool
names_other kinds.SourceFile c a = names_no_text c a
names_other kinds.Signature c a = names_no_text c a
names_other kinds.EnclosingMethod c a = names_no_method c a
names_other kind c a = false
