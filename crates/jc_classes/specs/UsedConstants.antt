-- The constants of a class file that are used. A constant is named, and so used, if the code of a method or a method
-- handle refers to it. The arguments of bootstrap methods are named too (JVMS 4.4.8, 4.7.23). A Class is also used if
-- its class is resolved with a named constant: the class of a member, or a class in a descriptor (JVMS 5.4.3). No code
-- resolves the others.
use Rattle.std.specs.Prelude.{ℕ, ◌==◌, Bool, false, List, [], ◌++◌, Option, Some, None, option_and_then, if◌then◌else◌}
use Rattle.std.specs.List.{flat_map, list_any, range_with_len}
use Rattle.std.specs.Option.{option_map_or, option_to_list}
use Rattle.jc_view.specs.declared.constant_pool.ConstantIndex.{ConstantIndex}
use Rattle.jc_view.specs.ConstantPool as pool
use Rattle.jc_view.specs.AttributeReading.{bootstraps_in}
use Rattle.jc_view.specs.Attributes.{bootstrap_attributes}
use Rattle.jc_view.specs.ClassFile.{ClassFile, all_slots, class_text_at, constant_at}
use Rattle.jc_view.specs.Lookups.{class_index}
use Rattle.jc_code.specs.NamedConstants.{named_by_method}
use Rattle.jc_classes.specs.NameLists.{has}
use Rattle.jc_classes.specs.NamedTexts.{named_by}
use Rattle.jc_classes.specs.Names.{Name}
use Rattle.jc_classes.specs.Parts.{class_of}
use Rattle.jc_classes.specs.ResolvedDescriptors.{classes_at, handle_descriptor, own_descriptor}

-- the constants that the code of the methods names
abbrev pub named_by_methods : ClassFile → List ConstantIndex
named_by_methods c = flat_map (named_by_method c) c.methods

-- the constant that a method handle refers to (JVMS 4.4.8)
abbrev pub named_by_handle : pool.Constant → Option ConstantIndex
named_by_handle (pool.MethodHandle kind reference) = Some reference
named_by_handle constant = None

-- the arguments of the bootstrap methods in the bytes of an attribute
abbrev pub named_by_table : List ℕ → List ConstantIndex
named_by_table bytes = option_map_or (flat_map (λ m. m.arguments)) (bootstraps_in bytes) []

-- the results of f for the constants, in ascending order of index
abbrev pub by_constants : (pool.Constant → Option ConstantIndex) → ClassFile → List ConstantIndex
by_constants f c =
    flat_map (λ index. option_to_list (option_and_then f (constant_at c (record { 0 = index }))))
    (range_with_len 1 (all_slots c.constants))

-- the constants that code and method handles refer to, and the arguments of bootstrap methods
unfoldable pub named : ClassFile → List ConstantIndex
named c =
    named_by_methods c
    ++ by_constants named_by_handle c
    ++ flat_map (λ a. named_by_table a.bytes) (bootstrap_attributes c)

abbrev pub is_among : List ConstantIndex → ℕ → Bool
is_among indexes i = list_any (λ index. index.0 == i) indexes

-- the results of f for the constants that are named, in ascending order of index
abbrev pub by_named : (pool.Constant → Option ConstantIndex) → ClassFile → List ConstantIndex
by_named f c =
    flat_map
    (λ index. option_to_list (if is_among (named c) index then option_and_then f (constant_at c (record { 0 = index })) else None))
    (range_with_len 1 (all_slots c.constants))

-- the descriptors that are resolved with the named constants, and those of the members that method handles name
unfoldable pub resolved_descriptors : ClassFile → List ConstantIndex
resolved_descriptors c = by_named (own_descriptor c) c ++ by_constants (handle_descriptor c) c

-- whether one of these descriptors contains the class
abbrev pub is_resolved : ClassFile → Name → Bool
is_resolved c name = list_any (λ index. has (classes_at c index) name) (resolved_descriptors c)

-- the index, if its constant is a Class whose class passes the test; for an array, its innermost class
abbrev pub class_that : (Name → Bool) → ClassFile → ℕ → Option ConstantIndex
class_that test c index =
    if option_map_or test (option_and_then (λ text. class_of (named_by text)) (class_text_at c (record { 0 = index }))) false
    then Some (record { 0 = index })
    else None

-- the indexes of the Class constants whose class passes the test
abbrev pub classes_that : (Name → Bool) → ClassFile → List ConstantIndex
classes_that test c = flat_map (λ index. option_to_list (class_that test c index)) (range_with_len 1 (all_slots c.constants))

-- the constants that are named, the classes of the named references to members, and the classes in resolved descriptors
unfoldable pub used_constants : ClassFile → List ConstantIndex
used_constants c = named c ++ by_named class_index c ++ classes_that (is_resolved c) c
