-- The first lines of a listing, which show the class itself.
use Rattle.std.specs.Prelude.{ℕ, List, ◌++◌, codes, decimal, ◌==◌, if◌then◌else◌}
use Rattle.std.specs.List.{flat_map}
use Rattle.jc_view.specs.declared.constant_pool.ConstantIndex.{ConstantIndex}
use Rattle.jc_view.specs.ClassFile.{ClassFile, all_slots, class_text_at}
use Rattle.jc_file.specs.AccessFlags.{class_flags}
use Rattle.jc_list.specs.Texts.{shown_text, flags_text}

abbrev pub name_line : ClassFile → List ℕ
name_line c = codes "class " ++ shown_text (class_text_at c c.this_class) ++ codes "\n"

abbrev pub flags_line : ClassFile → List ℕ
flags_line c = codes "flags " ++ flags_text class_flags c.flags ++ codes "\n"

abbrev pub version_line : ClassFile → List ℕ
version_line c = codes "version " ++ decimal c.major ++ codes "." ++ decimal c.minor ++ codes "\n"

abbrev pub super_text : ClassFile → List ℕ
super_text c = if c.super_class.0 == 0 then codes "none" else shown_text (class_text_at c c.super_class)

abbrev pub super_line : ClassFile → List ℕ
super_line c = codes "super " ++ super_text c ++ codes "\n"

abbrev pub interface_line : ClassFile → ConstantIndex → List ℕ
interface_line c index = codes "interface " ++ shown_text (class_text_at c index) ++ codes "\n"

-- the number of indexes that the constants take; a Long or a Double takes two (JVMS 4.4.5)
abbrev pub count_line : ClassFile → List ℕ
count_line c = codes "constants " ++ decimal (all_slots c.constants) ++ codes "\n"

unfoldable pub class_lines : ClassFile → List ℕ
class_lines c = name_line c ++ flags_line c ++ version_line c ++ super_line c ++ flat_map (interface_line c) c.interfaces ++ count_line c
