-- A class file of 53 bytes, and its parts, from which similar bytes are made.
use Rattle.std.specs.Prelude.{ℕ, List, [], ◌∷◌, ◌++◌, codes}
use Rattle.jc_view.specs.ConstantPool as pool
use Rattle.jc_view.specs.ClassFile.{ClassFile}

-- the bytes before the constants: magic, version 52.0 and this constant_pool_count, which is below 256
abbrev pub head : ℕ → List ℕ
head count = 0xca ∷ 0xfe ∷ 0xba ∷ 0xbe ∷ 0 ∷ 0 ∷ 0 ∷ 0x34 ∷ 0 ∷ count ∷ []

-- the four constants: Class #2, Utf8 A, Class #4, Utf8 java/lang/Object
abbrev pub constants : List ℕ
constants = 7 ∷ 0 ∷ 2 ∷ 1 ∷ 0 ∷ 1 ∷ 65 ∷ 7 ∷ 0 ∷ 4 ∷ 1 ∷ 0 ∷ 16 ∷ [] ++ codes "java/lang/Object"

-- the bytes after the constants: the flags PUBLIC and SUPER, this_class, super_class 3, and four empty tables
abbrev pub tail : ℕ → List ℕ
tail this_class = 0 ∷ 0x21 ∷ 0 ∷ this_class ∷ 0 ∷ 3 ∷ 0 ∷ 0 ∷ 0 ∷ 0 ∷ 0 ∷ 0 ∷ 0 ∷ 0 ∷ []

-- the bytes of the class A, which extends java/lang/Object
abbrev pub class_a : List ℕ
class_a = head 5 ++ constants ++ tail 1

abbrev pub class_a_data : ClassFile
class_a_data = record {
  minor = 0;
  major = 52;
  constants =
      pool.Class (record { 0 = 2 }) ∷ pool.Utf8 (codes "A")
      ∷ pool.Class (record { 0 = 4 }) ∷ pool.Utf8 (codes "java/lang/Object") ∷ [];
  flags = 0x21;
  this_class = record { 0 = 1 };
  super_class = record { 0 = 3 };
  interfaces = [];
  fields = [];
  methods = [];
  attributes = [];
}
