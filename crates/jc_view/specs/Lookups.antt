-- What a class file has at an index of its constant pool.
use Rattle.std.specs.Prelude.{ℕ, Bool, true, false, not, ◌==◌, List, Option, Some, None, option_and_then}
use Rattle.std.specs.Option.{option_map_or}
use Rattle.jc_view.specs.declared.constant_pool.ConstantIndex.{ConstantIndex}
use Rattle.jc_view.specs.declared.constant_pool.ConstantKind.{ConstantKind}
use Rattle.jc_view.specs.ConstantPool.{Constant, Fieldref, Methodref, InterfaceMethodref}
use Rattle.jc_view.specs.ConstantPool.{NameAndType, InvokeDynamic, kind_of, tag_of, utf8_text}
use Rattle.jc_view.specs.ClassFile.{ClassFile, constant_at}

-- the text of the Utf8 constant at an index
abbrev pub utf8_at : ClassFile → ConstantIndex → Option (List ℕ)
utf8_at c index = option_and_then utf8_text (constant_at c index)

abbrev pub is_kind : ConstantKind → Constant → Bool
is_kind kind constant = tag_of (kind_of constant) == tag_of kind

-- there is a constant at the index, and it is of this kind
abbrev pub is_entry : ClassFile → ConstantKind → ConstantIndex → Bool
is_entry c kind index = option_map_or (is_kind kind) (constant_at c index) false

-- the name_index and the descriptor_index of a NameAndType (JVMS 4.4.6)
abbrev pub name_and_type : Constant → Option (ConstantIndex × ConstantIndex)
name_and_type (NameAndType name descriptor) = Some (name, descriptor)
name_and_type constant = None

-- the class_index of a reference to a field or method (JVMS 4.4.2)
abbrev pub class_index : Constant → Option ConstantIndex
class_index (Fieldref class entry) = Some class
class_index (Methodref class entry) = Some class
class_index (InterfaceMethodref class entry) = Some class
class_index constant = None

-- the name_and_type_index of a reference to a field or method, or of an InvokeDynamic (JVMS 4.4.2, 4.4.10)
abbrev pub name_and_type_index : Constant → Option ConstantIndex
name_and_type_index (Fieldref class entry) = Some entry
name_and_type_index (Methodref class entry) = Some entry
name_and_type_index (InterfaceMethodref class entry) = Some entry
name_and_type_index (InvokeDynamic bootstrap entry) = Some entry
name_and_type_index constant = None

abbrev pub name_and_type_at : ClassFile → ConstantIndex → Option (ConstantIndex × ConstantIndex)
name_and_type_at c index = option_and_then name_and_type (constant_at c index)

-- the name in the NameAndType at an index
abbrev pub member_name_at : ClassFile → ConstantIndex → Option (List ℕ)
member_name_at c entry = option_and_then (λ pair. utf8_at c pair.0) (name_and_type_at c entry)

-- the descriptor in the NameAndType at an index
abbrev pub member_descriptor_at : ClassFile → ConstantIndex → Option (List ℕ)
member_descriptor_at c entry = option_and_then (λ pair. utf8_at c pair.1) (name_and_type_at c entry)

-- the name in the NameAndType of a reference to a field or method, or of an InvokeDynamic
abbrev pub name_of : ClassFile → Constant → Option (List ℕ)
name_of c reference = option_and_then (member_name_at c) (name_and_type_index reference)

-- ---- tests of an element that may be missing

-- the element exists and fails the test
abbrev pub fails : {X : Type 0} → (X → Bool) → Option X → Bool
fails test None = false
fails test (Some x) = not (test x)

-- the element is missing or fails the test
abbrev pub lacks : {X : Type 0} → (X → Bool) → Option X → Bool
lacks test None = true
lacks test (Some x) = not (test x)

-- the element exists and passes the test
abbrev pub passes : {X : Type 0} → (X → Bool) → Option X → Bool
passes test None = false
passes test (Some x) = test x
