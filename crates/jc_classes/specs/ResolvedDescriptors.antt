-- The descriptors that are resolved with a constant, and the classes in a descriptor (JVMS 5.4.3.3, 5.4.3.5, 5.4.3.6).
use Rattle.std.specs.Prelude.{ℕ, Bool, false, List, [], ◌∷◌, ◌++◌, Option, Some, None, option_and_then, if◌then◌else◌}
use Rattle.std.specs.List.{flat_map}
use Rattle.std.specs.Option.{option_map, option_map_or, option_to_list}
use Rattle.jc_base.specs.DescriptorTests.{method_type_of}
use Rattle.jc_view.specs.declared.constant_pool.ConstantIndex.{ConstantIndex}
use Rattle.jc_view.specs.ConstantPool as pool
use Rattle.jc_view.specs.ClassFile.{ClassFile, class_text_at, constant_at}
use Rattle.jc_view.specs.Lookups.{name_and_type_at, name_and_type_index, utf8_at}
use Rattle.jc_classes.specs.Names.{Name, method_handle, same_name}
use Rattle.jc_classes.specs.NamedTexts.{class_in_descriptor, without_dimensions}

-- ---- descriptors that are resolved with a constant

-- the descriptor of a NameAndType
abbrev pub descriptor_in : ClassFile → (entry : ConstantIndex) → Option ConstantIndex
descriptor_in c entry = option_map (λ pair. pair.1) (name_and_type_at c entry)

-- the Class constant names the class of the signature polymorphic methods (JVMS 2.9)
abbrev pub is_method_handle : ClassFile → (class : ConstantIndex) → Bool
is_method_handle c class = option_map_or (same_name method_handle) (class_text_at c class) false

-- the descriptor of a method type, of a call site, or of a method that may be signature polymorphic
abbrev pub own_descriptor : ClassFile → pool.Constant → Option ConstantIndex
own_descriptor c (pool.MethodType descriptor) = Some descriptor
own_descriptor c (pool.InvokeDynamic bootstrap entry) = descriptor_in c entry
own_descriptor c (pool.Methodref class entry) = if is_method_handle c class then descriptor_in c entry else None
own_descriptor c constant = None

-- the descriptor of the member that a method handle refers to
abbrev pub handle_descriptor : ClassFile → pool.Constant → Option ConstantIndex
handle_descriptor c (pool.MethodHandle kind reference) =
    option_and_then (descriptor_in c) (option_and_then name_and_type_index (constant_at c reference))
handle_descriptor c constant = None

-- ---- the classes in a descriptor

-- the parameters and the result of a method, or the type of a field (JVMS 4.3)
abbrev pub types_in : List ℕ → List (List ℕ)
types_in text = option_map_or (λ type. type.params ++ option_to_list type.result) (method_type_of text) (text ∷ [])

-- the class of a type; for an array, its innermost class
abbrev pub class_in_type : List ℕ → List Name
class_in_type type = option_to_list (class_in_descriptor (without_dimensions type))

abbrev pub classes_in : List ℕ → List Name
classes_in text = flat_map class_in_type (types_in text)

-- the classes in the descriptor at an index
abbrev pub classes_at : ClassFile → ConstantIndex → List Name
classes_at c index = option_map_or classes_in (utf8_at c index) []
