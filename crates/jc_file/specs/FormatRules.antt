-- A test for each rule of the format: which constants, classes, fields, methods and attributes break it. Violations
-- says in the standard's terms, with its sections, what each test decides.
use Rattle.std.specs.Prelude.{ℕ, Bool, true, false, not, ◌&&◌, ◌||◌, ◌==◌, nat_lt, nat_le, List, []}
use Rattle.std.specs.Prelude.{◌∷◌, length, sum_by, Option, Some, None, is_some, is_none, if◌then◌else◌, codes}
use Rattle.std.specs.List.{list_all, list_any}
use Rattle.std.specs.Option.{option_map_or}
use Rattle.jc_base.specs.Bytes.{same_bytes}
use Rattle.jc_base.specs.Endian.{big_number}
use Rattle.jc_base.specs.Descriptors as descriptors
use Rattle.jc_base.specs.Descriptors.{slots_of}
use Rattle.jc_base.specs.TextTests.{units_of, is_unqualified_text, is_class_text, is_method_name_text}
use Rattle.jc_base.specs.DescriptorTests.{begins_with, field_type_of, is_field_text, method_type_of, is_method_text}
use Rattle.jc_view.specs.declared.constant_pool.ConstantIndex.{ConstantIndex}
use Rattle.jc_view.specs.declared.constant_pool.ConstantKind.{ConstantKind}
use Rattle.jc_view.specs.declared.constant_pool.ConstantKind.TheVariants as kinds
use Rattle.jc_view.specs.declared.attribute_kind.AttributeKind.{AttributeKind}
use Rattle.jc_view.specs.declared.attribute_kind.AttributeKind.TheVariants as attributes
use Rattle.jc_view.specs.ConstantPool.{Constant, Utf8, Class, String, Fieldref, Methodref, InterfaceMethodref}
use Rattle.jc_view.specs.ConstantPool.{NameAndType, MethodHandle, MethodType, InvokeDynamic, index_value}
use Rattle.jc_view.specs.ClassFile.{Attribute, Member, ClassFile, class_text_at, constant_at}
use Rattle.jc_file.specs.AccessFlags.{public, private, protected, static, final, super, synchronized, volatile, bridge}
use Rattle.jc_file.specs.AccessFlags.{transient, native, interface, abstract, strict, enum, annotation, has, has_two_accesses}
use Rattle.jc_view.specs.Lookups.{utf8_at, is_kind, is_entry, name_of, member_descriptor_at, member_name_at, fails, lacks, passes}
use Rattle.jc_view.specs.Places.{PlacedAttribute}
use Rattle.jc_view.specs.Attributes.{is_recognised, Bootstrap, bootstrap_attributes, codes_of}
use Rattle.jc_view.specs.Attributes.{exceptions_of, first_index, second_index, values_of}
use Rattle.jc_view.specs.AttributeReading.{code_in, exceptions_in, bootstraps_in}

-- ---- texts

-- the text is a field descriptor with at least one dimension
abbrev pub is_array_text : List ℕ → Bool
is_array_text text = passes (λ type. nat_lt 0 type.dims) (field_type_of text)

abbrev pub is_init : List ℕ → Bool
is_init text = same_bytes text (codes "<init>")

abbrev pub is_clinit : List ℕ → Bool
is_clinit text = same_bytes text (codes "<clinit>")

-- the text is a method descriptor whose result is not void
abbrev pub returns_value : List ℕ → Bool
returns_value text = passes (λ type. is_some type.result) (method_type_of text)

-- ---- constants (JVMS 4.4)

abbrev pub lacks_member_entries : ClassFile → ConstantIndex → ConstantIndex → Bool
lacks_member_entries c class entry = not (is_entry c kinds.Class class) || not (is_entry c kinds.NameAndType entry)

abbrev pub breaks_f1 : ClassFile → Constant → Bool
breaks_f1 c (Class name) = not (is_entry c kinds.Utf8 name)
breaks_f1 c (String text) = not (is_entry c kinds.Utf8 text)
breaks_f1 c (Fieldref class entry) = lacks_member_entries c class entry
breaks_f1 c (Methodref class entry) = lacks_member_entries c class entry
breaks_f1 c (InterfaceMethodref class entry) = lacks_member_entries c class entry
breaks_f1 c (NameAndType name descriptor) = not (is_entry c kinds.Utf8 name) || not (is_entry c kinds.Utf8 descriptor)
breaks_f1 c (MethodType descriptor) = not (is_entry c kinds.Utf8 descriptor)
breaks_f1 c (InvokeDynamic bootstrap entry) = not (is_entry c kinds.NameAndType entry)
breaks_f1 c constant = false

abbrev pub breaks_f2 : ClassFile → Constant → Bool
breaks_f2 c (Utf8 text) = is_none (units_of text)
breaks_f2 c constant = false

abbrev pub breaks_f3 : ClassFile → Constant → Bool
breaks_f3 c (Class name) = fails (λ text. is_class_text text || is_array_text text) (utf8_at c name)
breaks_f3 c constant = false

abbrev pub breaks_f4 : ClassFile → Constant → Bool
breaks_f4 c (NameAndType name descriptor) = fails (λ text. is_field_text text || is_method_text text) (utf8_at c descriptor)
breaks_f4 c constant = false

-- the name in a NameAndType does not fit the descriptor there
abbrev pub fails_beside : List ℕ → Option (List ℕ) → Bool
fails_beside descriptor name =
    is_field_text descriptor && fails is_unqualified_text name
    || is_method_text descriptor && fails is_method_name_text name

abbrev pub breaks_f5 : ClassFile → Constant → Bool
breaks_f5 c (NameAndType name descriptor) = passes (λ text. fails_beside text (utf8_at c name)) (utf8_at c descriptor)
breaks_f5 c constant = false

abbrev pub breaks_f6 : ClassFile → Constant → Bool
breaks_f6 c (Fieldref class entry) = fails is_field_text (member_descriptor_at c entry)
breaks_f6 c (Methodref class entry) = fails is_method_text (member_descriptor_at c entry)
breaks_f6 c (InterfaceMethodref class entry) = fails is_method_text (member_descriptor_at c entry)
breaks_f6 c (InvokeDynamic bootstrap entry) = fails is_method_text (member_descriptor_at c entry)
breaks_f6 c constant = false

-- the name of a method begins with `<`, and either it is not `<init>` or the method returns a value
abbrev pub is_bad_special : Option (List ℕ) → List ℕ → Bool
is_bad_special descriptor name = begins_with 60 name && (not (is_init name) || passes returns_value descriptor)

abbrev pub breaks_f7 : ClassFile → Constant → Bool
breaks_f7 c (Methodref class entry) = passes (is_bad_special (member_descriptor_at c entry)) (member_name_at c entry)
breaks_f7 c constant = false

-- a handle of this kind may refer to this constant in a file of this version (JVMS 4.4.8)
abbrev pub fits_handle : ℕ → ℕ → Constant → Bool
fits_handle major kind entry =
    nat_le 1 kind && nat_le kind 4 && is_kind kinds.Fieldref entry
    || nat_le 5 kind && nat_le kind 8 && is_kind kinds.Methodref entry
    || nat_le 6 kind && nat_le kind 7 && nat_le 52 major && is_kind kinds.InterfaceMethodref entry
    || kind == 9 && is_kind kinds.InterfaceMethodref entry

abbrev pub breaks_f8 : ClassFile → Constant → Bool
breaks_f8 c (MethodHandle kind reference) = lacks (fits_handle c.major kind) (constant_at c reference)
breaks_f8 c constant = false

-- a handle of this kind must not refer to a method with this name
abbrev pub is_wrong_name : ℕ → List ℕ → Bool
is_wrong_name kind name =
    kind == 8 && not (is_init name)
    || (nat_le 5 kind && nat_le kind 7 || kind == 9) && (is_init name || is_clinit name)

abbrev pub breaks_f9 : ClassFile → Constant → Bool
breaks_f9 c (MethodHandle kind reference) =
    passes (λ entry. fits_handle c.major kind entry && passes (is_wrong_name kind) (name_of c entry)) (constant_at c reference)
breaks_f9 c constant = false

abbrev pub breaks_f10 : ClassFile → Constant → Bool
breaks_f10 c (MethodType descriptor) = fails is_method_text (utf8_at c descriptor)
breaks_f10 c constant = false

-- num_bootstrap_methods, the first two bytes of the attribute, or 0 if it has fewer bytes (JVMS 4.7.23)
abbrev pub declared_count : Attribute → ℕ
declared_count a = if nat_lt (length a.bytes) 2 then 0 else big_number 2 a.bytes

-- the list is a single attribute, and the number is below its count
abbrev pub is_declared : List Attribute → ℕ → Bool
is_declared (a ∷ []) number = nat_lt number (declared_count a)
is_declared others number = false

abbrev pub breaks_f11 : ClassFile → Constant → Bool
breaks_f11 c (InvokeDynamic bootstrap entry) = not (is_declared (bootstrap_attributes c) bootstrap)
breaks_f11 c constant = false

-- ---- the class (JVMS 4.1)

abbrev pub is_interface : ClassFile → Bool
is_interface c = has c.flags interface

abbrev pub breaks_f12 : ClassFile → Bool
breaks_f12 c =
    is_interface c && (not (has c.flags abstract) || has c.flags final || has c.flags super || has c.flags enum)
    || has c.flags annotation && not (is_interface c)
    || has c.flags final && has c.flags abstract

abbrev pub is_object : List ℕ → Bool
is_object name = same_bytes name (codes "java/lang/Object")

-- the Class constant at the index names `java/lang/Object`
abbrev pub names_object : ClassFile → ConstantIndex → Bool
names_object c index = passes is_object (class_text_at c index)

-- the rule for a class with a superclass
abbrev pub breaks_f13_with : ClassFile → Bool
breaks_f13_with c =
    names_object c c.this_class
    || lacks is_class_text (class_text_at c c.super_class)
    || is_interface c && not (names_object c c.super_class)

abbrev pub breaks_f13 : ClassFile → Bool
breaks_f13 c = if c.super_class.0 == 0 then not (names_object c c.this_class) || is_interface c else breaks_f13_with c

-- the rule for the index of a direct superinterface
abbrev pub breaks_f14 : ClassFile → ConstantIndex → Bool
breaks_f14 c index = lacks is_class_text (class_text_at c index)

-- a bootstrap method may have this constant as an argument (JVMS 4.7.23)
abbrev pub is_argument : Constant → Bool
is_argument constant =
    is_kind kinds.String constant || is_kind kinds.Class constant || is_kind kinds.Integer constant
    || is_kind kinds.Long constant || is_kind kinds.Float constant || is_kind kinds.Double constant
    || is_kind kinds.MethodHandle constant || is_kind kinds.MethodType constant

-- the bootstrap method is a MethodHandle, and each of its arguments is such a constant
abbrev pub is_bootstrap : ClassFile → Bootstrap → Bool
is_bootstrap c m = is_entry c kinds.MethodHandle m.method && list_all (λ index. passes is_argument (constant_at c index)) m.arguments

-- the class has more than one BootstrapMethods attribute, or one that is not exactly a table of such bootstrap methods
abbrev pub breaks_f27 : ClassFile → Bool
breaks_f27 c =
    nat_le 2 (length (bootstrap_attributes c))
    || list_any (λ a. lacks (list_all (is_bootstrap c)) (bootstraps_in a.bytes)) (bootstrap_attributes c)

-- ---- fields (JVMS 4.5)

abbrev pub breaks_f15 : ClassFile → Member → Bool
breaks_f15 c f = lacks is_unqualified_text (utf8_at c f.name)

abbrev pub breaks_f16 : ClassFile → Member → Bool
breaks_f16 c f = lacks is_field_text (utf8_at c f.descriptor)

-- a field of an interface may have these flags
abbrev pub are_constant_flags : ℕ → Bool
are_constant_flags flags =
    has flags public && has flags static && has flags final
    && not (has flags private) && not (has flags protected)
    && not (has flags volatile) && not (has flags transient) && not (has flags enum)

abbrev pub breaks_f17 : ClassFile → Member → Bool
breaks_f17 c f =
    has_two_accesses f.flags
    || has f.flags final && has f.flags volatile
    || is_interface c && not (are_constant_flags f.flags)

-- the kind of the constant that initializes a static field of this type (JVMS 4.7.2)
abbrev pub constant_kind_of : List ℕ → Option ConstantKind
constant_kind_of descriptor =
    if list_any (same_bytes descriptor) (codes "I" ∷ codes "S" ∷ codes "C" ∷ codes "B" ∷ codes "Z" ∷ []) then Some kinds.Integer
    else (if same_bytes descriptor (codes "F") then Some kinds.Float
    else (if same_bytes descriptor (codes "J") then Some kinds.Long
    else (if same_bytes descriptor (codes "D") then Some kinds.Double
    else (if same_bytes descriptor (codes "Ljava/lang/String;") then Some kinds.String
    else None))))

-- a ConstantValue has two bytes that do not name a constant of this kind
abbrev pub names_other : ClassFile → ConstantKind → Attribute → Bool
names_other c kind a = length a.bytes == 2 && not (is_entry c kind (index_value a.bytes))

-- a ConstantValue does not fit a field with this descriptor
abbrev pub misfits : ClassFile → List ℕ → Attribute → Bool
misfits c descriptor a = option_map_or (λ kind. names_other c kind a) (constant_kind_of descriptor) true

-- a ConstantValue of the field does not fit its type
abbrev pub has_misfit : ClassFile → Member → Bool
has_misfit c f = passes (λ descriptor. list_any (misfits c descriptor) (values_of c f)) (utf8_at c f.descriptor)

abbrev pub breaks_f25 : ClassFile → Member → Bool
breaks_f25 c f = has f.flags static && (nat_le 2 (length (values_of c f)) || has_misfit c f)

-- ---- methods (JVMS 4.6)

abbrev pub breaks_f19 : ClassFile → Member → Bool
breaks_f19 c m = lacks is_method_name_text (utf8_at c m.name)

-- the parameters and the receiver of an instance method take at most 255 slots together
abbrev pub fits_slots : Member → descriptors.MethodType → Bool
fits_slots m type = has m.flags static || nat_lt (sum_by slots_of type.params) 255

abbrev pub breaks_f20 : ClassFile → Member → Bool
breaks_f20 c m = lacks (λ text. passes (fits_slots m) (method_type_of text)) (utf8_at c m.descriptor)

abbrev pub is_named_clinit : ClassFile → Member → Bool
is_named_clinit c m = passes is_clinit (utf8_at c m.name)

abbrev pub is_named_init : ClassFile → Member → Bool
is_named_init c m = passes is_init (utf8_at c m.name)

-- a flag is set that an abstract method must not have
abbrev pub has_more_than_abstract : ℕ → Bool
has_more_than_abstract flags =
    has flags private || has flags static || has flags final || has flags synchronized || has flags native || has flags strict

abbrev pub same_answer : Bool → Bool → Bool
same_answer a b = if a then b else not b

-- a method of an interface must not have these flags in a file of this version
abbrev pub are_bad_interface_flags : ℕ → ℕ → Bool
are_bad_interface_flags major flags =
    has flags protected || has flags final || has flags synchronized || has flags native
    || (if nat_lt major 52 then not (has flags public && has flags abstract) else same_answer (has flags public) (has flags private))

-- a constructor has a flag other than PUBLIC, PRIVATE, PROTECTED, VARARGS, STRICT and SYNTHETIC
abbrev pub has_more_than_constructor : ℕ → Bool
has_more_than_constructor flags =
    has flags static || has flags final || has flags synchronized || has flags bridge || has flags native || has flags abstract

abbrev pub breaks_f21 : ClassFile → Member → Bool
breaks_f21 c m =
    not (is_named_clinit c m)
    && (has_two_accesses m.flags
    || has m.flags abstract && has_more_than_abstract m.flags
    || is_interface c && are_bad_interface_flags c.major m.flags
    || is_named_init c m && has_more_than_constructor m.flags)

abbrev pub breaks_f23 : ClassFile → Member → Bool
breaks_f23 c m =
    if (has m.flags native || has m.flags abstract) && not (is_named_clinit c m) then nat_lt 0 (length (codes_of c m))
    else not (length (codes_of c m) == 1)

abbrev pub breaks_f24 : ClassFile → Member → Bool
breaks_f24 c m = list_any (λ a. is_none (code_in a.bytes)) (codes_of c m)

-- the bytes are not exactly a table of the indexes of Class constants
abbrev pub lacks_classes : ClassFile → List ℕ → Bool
lacks_classes c bytes = lacks (list_all (is_entry c kinds.Class)) (exceptions_in bytes)

-- an Exceptions attribute of the method is not such a table
abbrev pub has_bad_exceptions : ClassFile → Member → Bool
has_bad_exceptions c m = list_any (λ a. lacks_classes c a.bytes) (exceptions_of c m)

abbrev pub breaks_f26 : ClassFile → Member → Bool
breaks_f26 c m = nat_le 2 (length (exceptions_of c m)) || has_bad_exceptions c m

-- ---- attributes (JVMS 4.7)

abbrev pub breaks_f28 : ClassFile → PlacedAttribute → Bool
breaks_f28 c a = is_none (utf8_at c a.attribute.name)

-- the attribute is recognised as one of this kind, and has this length
abbrev pub is_sized : ClassFile → AttributeKind → ℕ → PlacedAttribute → Bool
is_sized c kind len a = is_recognised c kind a.holder a.attribute && length a.attribute.bytes == len

-- the attribute is recognised as one of this kind, and has another length
abbrev pub is_missized : ClassFile → AttributeKind → ℕ → PlacedAttribute → Bool
is_missized c kind len a = is_recognised c kind a.holder a.attribute && not (length a.attribute.bytes == len)

abbrev pub breaks_f29 : ClassFile → PlacedAttribute → Bool
breaks_f29 c a =
    is_missized c attributes.ConstantValue 2 a || is_missized c attributes.SourceFile 2 a
    || is_missized c attributes.Signature 2 a || is_missized c attributes.EnclosingMethod 4 a
    || is_missized c attributes.Synthetic 0 a || is_missized c attributes.Deprecated 0 a

-- the index is not 0, and does not name a NameAndType
abbrev pub lacks_method : ClassFile → ConstantIndex → Bool
lacks_method c index = not (index.0 == 0) && not (is_entry c kinds.NameAndType index)

-- the index in a SourceFile or a Signature does not name a Utf8
abbrev pub lacks_text : ClassFile → PlacedAttribute → Bool
lacks_text c a =
    (is_sized c attributes.SourceFile 2 a || is_sized c attributes.Signature 2 a)
    && not (is_entry c kinds.Utf8 (first_index a))

-- the first index in an EnclosingMethod does not name a Class, or the second index names something other than a
-- NameAndType
abbrev pub encloses_other : ClassFile → PlacedAttribute → Bool
encloses_other c a =
    is_sized c attributes.EnclosingMethod 4 a
    && (not (is_entry c kinds.Class (first_index a)) || lacks_method c (second_index a))

abbrev pub breaks_f30 : ClassFile → PlacedAttribute → Bool
breaks_f30 c a = lacks_text c a || encloses_other c a
