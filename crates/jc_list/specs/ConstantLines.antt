-- A line for each constant.
use Rattle.std.specs.Prelude.{ℕ, List, [], ◌++◌, codes, decimal}
use Rattle.std.specs.Fmt.{signed_decimal}
use Rattle.std.specs.Int.{cast_signed, to_be_bytes, w32, w64}
use Rattle.std.specs.List.{flat_map, range_with_len}
use Rattle.std.specs.Option.{option_map_or}
use Rattle.jc_text.specs.Numbers.{hexadecimal}
use Rattle.jc_text.specs.Escapes.{shown}
use Rattle.jc_view.specs.declared.constant_pool.ConstantIndex.{ConstantIndex}
use Rattle.jc_view.specs.ConstantPool.{Constant, Utf8, Integer, Float, Long, Double, Class, String, Fieldref, Methodref}
use Rattle.jc_view.specs.ConstantPool.{InterfaceMethodref, NameAndType, MethodHandle, MethodType, InvokeDynamic, kind_name, kind_of}
use Rattle.jc_view.specs.ClassFile.{ClassFile, all_slots, constant_at}
use Rattle.jc_list.specs.Texts.{index_text}

abbrev pub pair_text : ConstantIndex → ConstantIndex → List ℕ
pair_text first second = index_text first ++ codes " " ++ index_text second

-- the value of a constant: integers in decimal, and the bits of floating point numbers in hexadecimal
abbrev pub constant_text : Constant → List ℕ
constant_text (Utf8 text) = shown text
constant_text (Integer bits) = signed_decimal (cast_signed w32 bits)
constant_text (Float bits) = codes "0x" ++ hexadecimal (to_be_bytes w32 bits)
constant_text (Long bits) = signed_decimal (cast_signed w64 bits)
constant_text (Double bits) = codes "0x" ++ hexadecimal (to_be_bytes w64 bits)
constant_text (Class name) = index_text name
constant_text (String text) = index_text text
constant_text (Fieldref class name_and_type) = pair_text class name_and_type
constant_text (Methodref class name_and_type) = pair_text class name_and_type
constant_text (InterfaceMethodref class name_and_type) = pair_text class name_and_type
constant_text (NameAndType name descriptor) = pair_text name descriptor
constant_text (MethodHandle kind reference) = decimal kind ++ codes " " ++ index_text reference
constant_text (MethodType descriptor) = index_text descriptor
constant_text (InvokeDynamic bootstrap name_and_type) = decimal bootstrap ++ codes " " ++ index_text name_and_type

abbrev pub constant_line : ℕ → Constant → List ℕ
constant_line index constant =
    codes "  #" ++ decimal index ++ codes " " ++ kind_name (kind_of constant)
    ++ codes " " ++ constant_text constant ++ codes "\n"

-- the line of an index; an index that is not usable has none
abbrev pub line_at : ClassFile → ℕ → List ℕ
line_at c index = option_map_or (constant_line index) (constant_at c (record { 0 = index })) []

unfoldable pub constant_lines : ClassFile → List ℕ
constant_lines c = flat_map (line_at c) (range_with_len 1 (all_slots c.constants))
