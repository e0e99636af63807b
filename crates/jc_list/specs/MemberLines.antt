-- A line for each field and each method, and after it its attributes.
use Rattle.std.specs.Prelude.{ℕ, List, ◌++◌, codes}
use Rattle.std.specs.List.{flat_map}
use Rattle.jc_view.specs.ClassFile.{ClassFile, Member}
use Rattle.jc_view.specs.Lookups.{utf8_at}
use Rattle.jc_view.specs.Places.{PlacedMember, fields_in, methods_in, member_attributes}
use Rattle.jc_file.specs.declared.access_flag.AccessFlag.{AccessFlag}
use Rattle.jc_file.specs.AccessFlags.{field_flags, method_flags}
use Rattle.jc_list.specs.Texts.{shown_text, flags_text}
use Rattle.jc_list.specs.AttributeLines.{attribute_lines}

abbrev pub member_line : ClassFile → List ℕ → List AccessFlag → Member → List ℕ
member_line c word flags m =
    word ++ codes " " ++ shown_text (utf8_at c m.name) ++ codes " " ++ shown_text (utf8_at c m.descriptor)
    ++ codes " " ++ flags_text flags m.flags ++ codes "\n"

abbrev pub member_lines : ClassFile → List ℕ → List AccessFlag → PlacedMember → List ℕ
member_lines c word flags m = member_line c word flags m.member ++ flat_map (attribute_lines c (codes "  ")) (member_attributes m)

unfoldable pub field_lines : ClassFile → List ℕ
field_lines c = flat_map (member_lines c (codes "field") field_flags) (fields_in c)

unfoldable pub method_lines : ClassFile → List ℕ
method_lines c = flat_map (member_lines c (codes "method") method_flags) (methods_in c)
