-- Constants, their tags and their bytes (JVMS 4.4).
use Rattle.jc_base.specs.Endian.{big_number, big_bytes}
use Rattle.std.specs.Prelude.{ℕ, ◌<◌, ◌^◌, Bool, true, false, List, [], ◌∷◌, ◌++◌}
use Rattle.std.specs.Prelude.{length, Option, Some, None, if◌then◌else◌, ◌==◌, codes}
use Rattle.jc_view.specs.declared.constant_pool.ConstantIndex.{ConstantIndex}
use Rattle.jc_view.specs.declared.constant_pool.ConstantKind.{ConstantKind}
use Rattle.jc_view.specs.declared.constant_pool.ConstantKind.TheVariants as kinds

-- a constant as plain data (JVMS 4.4.1 to 4.4.10). `bits` is the value of the bytes of a number, the highest byte first
pub data Constant : Type 0 where
  Utf8 : (text : List ℕ) → Constant
  Integer : (bits : ℕ) → Constant
  Float : (bits : ℕ) → Constant
  Long : (bits : ℕ) → Constant
  Double : (bits : ℕ) → Constant
  Class : (name : ConstantIndex) → Constant
  String : (text : ConstantIndex) → Constant
  Fieldref : (class name_and_type : ConstantIndex) → Constant
  Methodref : (class name_and_type : ConstantIndex) → Constant
  InterfaceMethodref : (class name_and_type : ConstantIndex) → Constant
  NameAndType : (name descriptor : ConstantIndex) → Constant
  MethodHandle : (kind : ℕ) (reference : ConstantIndex) → Constant
  MethodType : (descriptor : ConstantIndex) → Constant
  InvokeDynamic : (bootstrap : ℕ) (name_and_type : ConstantIndex) → Constant

abbrev pub kind_of : Constant → ConstantKind
kind_of (Utf8 text) = kinds.Utf8
kind_of (Integer bits) = kinds.Integer
kind_of (Float bits) = kinds.Float
kind_of (Long bits) = kinds.Long
kind_of (Double bits) = kinds.Double
kind_of (Class name) = kinds.Class
kind_of (String text) = kinds.String
kind_of (Fieldref class name_and_type) = kinds.Fieldref
kind_of (Methodref class name_and_type) = kinds.Methodref
kind_of (InterfaceMethodref class name_and_type) = kinds.InterfaceMethodref
kind_of (NameAndType name descriptor) = kinds.NameAndType
kind_of (MethodHandle kind reference) = kinds.MethodHandle
kind_of (MethodType descriptor) = kinds.MethodType
kind_of (InvokeDynamic bootstrap name_and_type) = kinds.InvokeDynamic

-- the tag of each kind (JVMS 4.4)
abbrev pub tag_of : ConstantKind → ℕ
tag_of kinds.Utf8 = 1
tag_of kinds.Integer = 3
tag_of kinds.Float = 4
tag_of kinds.Long = 5
tag_of kinds.Double = 6
tag_of kinds.Class = 7
tag_of kinds.String = 8
tag_of kinds.Fieldref = 9
tag_of kinds.Methodref = 10
tag_of kinds.InterfaceMethodref = 11
tag_of kinds.NameAndType = 12
tag_of kinds.MethodHandle = 15
tag_of kinds.MethodType = 16
tag_of kinds.InvokeDynamic = 18

abbrev pub kind_name : ConstantKind → List ℕ
kind_name kinds.Utf8 = codes "Utf8"
kind_name kinds.Integer = codes "Integer"
kind_name kinds.Float = codes "Float"
kind_name kinds.Long = codes "Long"
kind_name kinds.Double = codes "Double"
kind_name kinds.Class = codes "Class"
kind_name kinds.String = codes "String"
kind_name kinds.Fieldref = codes "Fieldref"
kind_name kinds.Methodref = codes "Methodref"
kind_name kinds.InterfaceMethodref = codes "InterfaceMethodref"
kind_name kinds.NameAndType = codes "NameAndType"
kind_name kinds.MethodHandle = codes "MethodHandle"
kind_name kinds.MethodType = codes "MethodType"
kind_name kinds.InvokeDynamic = codes "InvokeDynamic"

-- all kinds, without repetition
abbrev pub all_kinds : List ConstantKind
all_kinds =
    kinds.Utf8 ∷ kinds.Integer ∷ kinds.Float ∷ kinds.Long ∷ kinds.Double ∷ kinds.Class ∷ kinds.String
    ∷ kinds.Fieldref ∷ kinds.Methodref ∷ kinds.InterfaceMethodref ∷ kinds.NameAndType
    ∷ kinds.MethodHandle ∷ kinds.MethodType ∷ kinds.InvokeDynamic ∷ []

-- the first of these kinds that has this tag
abbrev pub with_tag : ℕ → List ConstantKind → Option ConstantKind
with_tag tag [] = None
with_tag tag (kind ∷ kinds) = if tag == tag_of kind then Some kind else with_tag tag kinds

-- the kind with this tag, if there is one
abbrev pub kind_of_tag : ℕ → Option ConstantKind
kind_of_tag tag = with_tag tag all_kinds

-- a Long or a Double takes two indexes, the second of which is unusable (JVMS 4.4.5)
abbrev pub is_wide : ConstantKind → Bool
is_wide kinds.Long = true
is_wide kinds.Double = true
is_wide _ = false

abbrev pub index_bytes : ConstantIndex → List ℕ
index_bytes index = big_bytes 2 index.0

-- the bytes after the tag (JVMS 4.4.1 to 4.4.10)
abbrev pub body_bytes : Constant → List ℕ
body_bytes (Utf8 text) = big_bytes 2 (length text) ++ text
body_bytes (Integer bits) = big_bytes 4 bits
body_bytes (Float bits) = big_bytes 4 bits
body_bytes (Long bits) = big_bytes 8 bits
body_bytes (Double bits) = big_bytes 8 bits
body_bytes (Class name) = index_bytes name
body_bytes (String text) = index_bytes text
body_bytes (Fieldref class name_and_type) = index_bytes class ++ index_bytes name_and_type
body_bytes (Methodref class name_and_type) = index_bytes class ++ index_bytes name_and_type
body_bytes (InterfaceMethodref class name_and_type) = index_bytes class ++ index_bytes name_and_type
body_bytes (NameAndType name descriptor) = index_bytes name ++ index_bytes descriptor
body_bytes (MethodHandle kind reference) = big_bytes 1 kind ++ index_bytes reference
body_bytes (MethodType descriptor) = index_bytes descriptor
body_bytes (InvokeDynamic bootstrap name_and_type) = big_bytes 2 bootstrap ++ index_bytes name_and_type

-- the bytes of a constant: its tag, and the bytes after it (JVMS 4.4)
unfoldable pub constant_bytes : Constant → List ℕ
constant_bytes constant = tag_of (kind_of constant) ∷ body_bytes constant

-- the index fits two bytes; there may be no constant at it
abbrev pub IsIndex : ConstantIndex → Type 0
IsIndex index = index.0 < 2 ^ 16

-- the index at the front of the bytes
abbrev pub index_value : List ℕ → ConstantIndex
index_value xs = record { 0 = big_number 2 xs }

-- the text and the numbers of the constant fit the bytes that encode them
abbrev pub FitsConstant : Constant → Type 0
FitsConstant (Utf8 text) = length text < 2 ^ 16
FitsConstant (Integer bits) = bits < 2 ^ 32
FitsConstant (Float bits) = bits < 2 ^ 32
FitsConstant (Long bits) = bits < 2 ^ 64
FitsConstant (Double bits) = bits < 2 ^ 64
FitsConstant (Class name) = IsIndex name
FitsConstant (String text) = IsIndex text
FitsConstant (Fieldref class name_and_type) = IsIndex class × IsIndex name_and_type
FitsConstant (Methodref class name_and_type) = IsIndex class × IsIndex name_and_type
FitsConstant (InterfaceMethodref class name_and_type) = IsIndex class × IsIndex name_and_type
FitsConstant (NameAndType name descriptor) = IsIndex name × IsIndex descriptor
FitsConstant (MethodHandle kind reference) = (kind < 2 ^ 8) × IsIndex reference
FitsConstant (MethodType descriptor) = IsIndex descriptor
FitsConstant (InvokeDynamic bootstrap name_and_type) = (bootstrap < 2 ^ 16) × IsIndex name_and_type

-- the name_index of a Class constant (JVMS 4.4.1); other constants have none
abbrev pub class_name_index : Constant → Option ConstantIndex
class_name_index (Class name) = Some name
class_name_index constant = None

-- the bytes of a Utf8 constant (JVMS 4.4.7); other constants have none
abbrev pub utf8_text : Constant → Option (List ℕ)
utf8_text (Utf8 text) = Some text
utf8_text constant = None
