-- Texts that several lines of a listing show.
use Rattle.std.specs.Prelude.{ℕ, List, [], ◌++◌, Option, codes, decimal, if◌then◌else◌}
use Rattle.std.specs.Int.{to_be_bytes, w16}
use Rattle.std.specs.List.{flat_map}
use Rattle.std.specs.Option.{option_map_or}
use Rattle.jc_text.specs.Numbers.{hexadecimal}
use Rattle.jc_text.specs.Escapes.{shown}
use Rattle.jc_view.specs.declared.constant_pool.ConstantIndex.{ConstantIndex}
use Rattle.jc_view.specs.ConstantPool.{Constant, Class, Fieldref, Methodref, InterfaceMethodref}
use Rattle.jc_view.specs.ClassFile.{ClassFile, class_text_at, constant_at}
use Rattle.jc_view.specs.Lookups.{utf8_at, member_name_at, member_descriptor_at}
use Rattle.jc_file.specs.declared.access_flag.AccessFlag.{AccessFlag}
use Rattle.jc_file.specs.AccessFlags.{flag_name, has, mask_of}

-- a text, or `?` if it is missing
abbrev pub shown_text : Option (List ℕ) → List ℕ
shown_text text = option_map_or shown text (codes "?")

-- an index into the constants
abbrev pub index_text : ConstantIndex → List ℕ
index_text index = codes "#" ++ decimal index.0

-- ---- access flags

abbrev pub flag_text : ℕ → AccessFlag → List ℕ
flag_text bits flag = if has bits (mask_of flag) then codes " " ++ flag_name flag else []

-- all bits in hexadecimal, and the names of the given flags that are set
abbrev pub flags_text : List AccessFlag → ℕ → List ℕ
flags_text flags bits = codes "0x" ++ hexadecimal (to_be_bytes w16 bits) ++ flat_map (flag_text bits) flags

-- ---- references

-- a member: its class, its name and its descriptor
abbrev pub member_reference : ClassFile → ConstantIndex → ConstantIndex → List ℕ
member_reference c class entry =
    shown_text (class_text_at c class) ++ codes "." ++ shown_text (member_name_at c entry)
    ++ codes ":" ++ shown_text (member_descriptor_at c entry)

-- a space and what a constant refers to, if it refers to a class, a field or a method
abbrev pub reference_of : ClassFile → Constant → List ℕ
reference_of c (Class name) = codes " class " ++ shown_text (utf8_at c name)
reference_of c (Fieldref class entry) = codes " field " ++ member_reference c class entry
reference_of c (Methodref class entry) = codes " method " ++ member_reference c class entry
reference_of c (InterfaceMethodref class entry) = codes " imethod " ++ member_reference c class entry
reference_of c constant = []

abbrev pub reference_text : ClassFile → ConstantIndex → List ℕ
reference_text c index = option_map_or (reference_of c) (constant_at c index) []

-- an index, and what its constant refers to
abbrev pub index_with_reference : ClassFile → ConstantIndex → List ℕ
index_with_reference c index = index_text index ++ reference_text c index
