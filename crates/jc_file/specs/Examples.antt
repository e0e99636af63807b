-- Class files that differ a little from a class file of 53 bytes.
use Rattle.std.specs.Prelude.{[], ◌∷◌, ◌++◌, codes}
use Rattle.jc_view.specs.ConstantPool as pool
use Rattle.jc_view.specs.ClassFile.{ClassFile}
use Rattle.jc_view.specs.Examples.{class_a_data}

-- the class A with a fifth constant: a Class whose name_index is not that of a constant
abbrev pub with_nameless_class : ClassFile
with_nameless_class = record class_a_data { constants = class_a_data.constants ++ pool.Class (record { 0 = 9 }) ∷ [] }

-- the class A with the flags FINAL and ABSTRACT
abbrev pub final_and_abstract : ClassFile
final_and_abstract = record class_a_data { flags = 0x0431 }

-- the class A with a method that has no Code
abbrev pub without_code : ClassFile
without_code = record class_a_data {
  constants = class_a_data.constants ++ pool.Utf8 (codes "m") ∷ pool.Utf8 (codes "()V") ∷ [];
  methods = record { flags = 1; name = record { 0 = 5 }; descriptor = record { 0 = 6 }; attributes = [] } ∷ [];
}
