-- When a rule of the format is broken at a place, in the terms of the standard. The law `faults_are_violations` says
-- that the tests of FormatRules decide this. A rule about the contents of a constant is not broken if the constant is
-- missing or of another kind, unless the rule itself requires it.
use Rattle.std.specs.Prelude.{◌++◌, ◌≡◌, ◌≢◌, ◌↔◌, ◌⊎◌, ℕ, ◌<◌, ◌≤◌, List, []}
use Rattle.std.specs.Prelude.{◌∷◌, length, sum_by, Some, None, slice_get, All, Contains, IsTrue, codes}
use Rattle.std.specs.List.{flat_map}
use Rattle.jc_base.specs.Endian.{big_number}
use Rattle.jc_base.specs.ModifiedUtf8.{IsWellSpelled}
use Rattle.jc_base.specs.Names.{IsUnqualifiedName, IsMethodName, IsClassName}
use Rattle.jc_base.specs.Descriptors.{FieldType, MethodType, IsField, IsFieldDescriptor, IsMethod, IsMethodDescriptor, slots_of}
use Rattle.jc_view.specs.declared.constant_pool.ConstantIndex.{ConstantIndex}
use Rattle.jc_view.specs.declared.constant_pool.ConstantKind.{ConstantKind}
use Rattle.jc_view.specs.declared.constant_pool.ConstantKind.TheVariants as kinds
use Rattle.jc_view.specs.declared.attribute_kind.AttributeKind.{AttributeKind}
use Rattle.jc_view.specs.declared.attribute_kind.AttributeKind.TheVariants as attributes
use Rattle.jc_view.specs.declared.attribute_kind.Holder.{Holder}
use Rattle.jc_file.specs.declared.fault.FormatRule.{FormatRule}
use Rattle.jc_file.specs.declared.fault.FormatRule.TheVariants as rules
use Rattle.jc_view.specs.ConstantPool.{Constant, Utf8, Class, String, Fieldref, Methodref, InterfaceMethodref, NameAndType}
use Rattle.jc_view.specs.ConstantPool.{MethodHandle, MethodType as MethodTypeEntry, InvokeDynamic, kind_of, index_value}
use Rattle.jc_view.specs.ClassFile.{Attribute, Member, ClassFile, constant_at}
use Rattle.jc_file.specs.AccessFlags.{public, private, protected, static, final, super, synchronized, volatile}
use Rattle.jc_file.specs.AccessFlags.{bridge, transient, native, interface, abstract, strict, enum, annotation, has}
use Rattle.jc_view.specs.Lookups.{name_and_type_index}
use Rattle.jc_view.specs.Places.{PlacedAttribute, fields_in, methods_in, attributes_in, member_attributes}
use Rattle.jc_view.specs.Attributes.{of_kind, code_attributes, attribute_name, belongs_to, Code, IsCodeOf}
use Rattle.jc_view.specs.Attributes.{AreExceptionsOf, Bootstrap, AreBootstrapsOf, bootstrap_attributes}
use Rattle.jc_view.specs.Attributes.{values_of, codes_of, exceptions_of, first_index, second_index}

-- ---- the constants at an index

-- this constant is at the index; an index that is not usable has none (JVMS 4.1, 4.4.5)
abbrev pub IsEntry : ClassFile → ConstantIndex → Constant → Type 0
IsEntry c index entry = constant_at c index ≡ Some entry

-- there is a constant at the index, and it is of this kind
abbrev pub NamesKind : ClassFile → ConstantKind → ConstantIndex → Type 0
NamesKind c kind index = (entry : Constant) × IsEntry c index entry × (kind_of entry ≡ kind)

-- there is a Utf8 at the index, and its text has this property
abbrev pub HasText : ClassFile → (List ℕ → Type 0) → ConstantIndex → Type 0
HasText c Is index = (text : List ℕ) × IsEntry c index (Utf8 text) × Is text

-- there is a Class at the index, and the text that it names has this property
abbrev pub HasClassText : ClassFile → (List ℕ → Type 0) → ConstantIndex → Type 0
HasClassText c Is index = (name : ConstantIndex) × IsEntry c index (Class name) × HasText c Is name

-- there is a NameAndType at the index, and its name has this property
abbrev pub GivesName : ClassFile → (List ℕ → Type 0) → ConstantIndex → Type 0
GivesName c Is entry =
    (name : ConstantIndex) × (descriptor : ConstantIndex) × IsEntry c entry (NameAndType name descriptor)
    × HasText c Is name

-- there is a NameAndType at the index, and its descriptor has this property
abbrev pub GivesDescriptor : ClassFile → (List ℕ → Type 0) → ConstantIndex → Type 0
GivesDescriptor c Is entry =
    (name : ConstantIndex) × (descriptor : ConstantIndex) × IsEntry c entry (NameAndType name descriptor)
    × HasText c Is descriptor

-- the name of the field or method that a reference names has this property
abbrev pub RefersTo : ClassFile → (List ℕ → Type 0) → Constant → Type 0
RefersTo c Is reference = (entry : ConstantIndex) × (name_and_type_index reference ≡ Some entry) × GivesName c Is entry

-- ---- texts

-- a field descriptor with at least one dimension (JVMS 4.4.1)
abbrev pub IsArrayDescriptor : List ℕ → Type 0
IsArrayDescriptor text = (type : FieldType) × IsField text type × (0 < type.dims)

-- a method descriptor whose result is not void (JVMS 4.3.3)
abbrev pub ReturnsValue : List ℕ → Type 0
ReturnsValue text = (type : MethodType) × IsMethod text type × (type.result ≢ None)

abbrev pub IsInit : List ℕ → Type 0
IsInit text = text ≡ codes "<init>"

abbrev pub IsClinit : List ℕ → Type 0
IsClinit text = text ≡ codes "<clinit>"

abbrev pub IsObject : List ℕ → Type 0
IsObject text = text ≡ codes "java/lang/Object"

-- ---- constants (JVMS 4.4): when a constant breaks a rule

-- the class_index or the name_and_type_index of a reference does not name a constant of the right kind (JVMS 4.4.2)
abbrev pub LacksMemberEntries : ClassFile → ConstantIndex → ConstantIndex → Type 0
LacksMemberEntries c class entry = ¬ NamesKind c kinds.Class class ⊎ ¬ NamesKind c kinds.NameAndType entry

-- an index in a constant names no constant of the right kind; the reference_index of a MethodHandle is left to F8
-- (JVMS 4.4.1 to 4.4.3, 4.4.6, 4.4.9, 4.4.10)
abbrev pub BreaksF1 : ClassFile → Constant → Type 0
BreaksF1 c (Class name) = ¬ NamesKind c kinds.Utf8 name
BreaksF1 c (String text) = ¬ NamesKind c kinds.Utf8 text
BreaksF1 c (Fieldref class entry) = LacksMemberEntries c class entry
BreaksF1 c (Methodref class entry) = LacksMemberEntries c class entry
BreaksF1 c (InterfaceMethodref class entry) = LacksMemberEntries c class entry
BreaksF1 c (NameAndType name descriptor) = ¬ NamesKind c kinds.Utf8 name ⊎ ¬ NamesKind c kinds.Utf8 descriptor
BreaksF1 c (MethodTypeEntry descriptor) = ¬ NamesKind c kinds.Utf8 descriptor
BreaksF1 c (InvokeDynamic bootstrap entry) = ¬ NamesKind c kinds.NameAndType entry
BreaksF1 c constant = ⊥

-- a text is not modified UTF-8 (JVMS 4.4.7)
abbrev pub BreaksF2 : ClassFile → Constant → Type 0
BreaksF2 c (Utf8 text) = ¬ IsWellSpelled text
BreaksF2 c constant = ⊥

-- the text of a Class is neither a class name nor an array descriptor (JVMS 4.4.1)
abbrev pub BreaksF3 : ClassFile → Constant → Type 0
BreaksF3 c (Class name) = HasText c (λ text. ¬ (IsClassName text ⊎ IsArrayDescriptor text)) name
BreaksF3 c constant = ⊥

-- the descriptor of a NameAndType is neither a field descriptor nor a method descriptor (JVMS 4.4.6)
abbrev pub BreaksF4 : ClassFile → Constant → Type 0
BreaksF4 c (NameAndType name descriptor) = HasText c (λ text. ¬ (IsFieldDescriptor text ⊎ IsMethodDescriptor text)) descriptor
BreaksF4 c constant = ⊥

-- the name does not fit the descriptor beside it: a field has an unqualified name, and a method has a method name
abbrev pub MisfitsName : ClassFile → ConstantIndex → List ℕ → Type 0
MisfitsName c name descriptor =
    IsFieldDescriptor descriptor × HasText c (λ text. ¬ IsUnqualifiedName text) name
    ⊎ IsMethodDescriptor descriptor × HasText c (λ text. ¬ IsMethodName text) name

-- the name of a NameAndType does not fit its descriptor (JVMS 4.4.6, 4.2.2)
abbrev pub BreaksF5 : ClassFile → Constant → Type 0
BreaksF5 c (NameAndType name descriptor) = HasText c (MisfitsName c name) descriptor
BreaksF5 c constant = ⊥

-- the descriptor of a Fieldref is not a field descriptor, or that of a Methodref, InterfaceMethodref or InvokeDynamic
-- is not a method descriptor (JVMS 4.4.2, 4.4.10)
abbrev pub BreaksF6 : ClassFile → Constant → Type 0
BreaksF6 c (Fieldref class entry) = GivesDescriptor c (λ text. ¬ IsFieldDescriptor text) entry
BreaksF6 c (Methodref class entry) = GivesDescriptor c (λ text. ¬ IsMethodDescriptor text) entry
BreaksF6 c (InterfaceMethodref class entry) = GivesDescriptor c (λ text. ¬ IsMethodDescriptor text) entry
BreaksF6 c (InvokeDynamic bootstrap entry) = GivesDescriptor c (λ text. ¬ IsMethodDescriptor text) entry
BreaksF6 c constant = ⊥

-- the name begins with `<`
abbrev pub IsBracketed : List ℕ → Type 0
IsBracketed name = (rest : List ℕ) × (name ≡ 60 ∷ rest)

-- the name of the method of a Methodref begins with `<`, and either it is not `<init>` or the method returns a value
-- (JVMS 4.4.2)
abbrev pub BreaksF7 : ClassFile → Constant → Type 0
BreaksF7 c (Methodref class entry) =
    GivesName c (λ name. IsBracketed name × (¬ IsInit name ⊎ GivesDescriptor c ReturnsValue entry)) entry
BreaksF7 c constant = ⊥

-- a handle of this kind may refer to this constant in a file of this version (JVMS 4.4.8)
abbrev pub FitsHandle : ℕ → ℕ → Constant → Type 0
FitsHandle major kind entry =
    (1 ≤ kind) × (kind ≤ 4) × (kind_of entry ≡ kinds.Fieldref)
    ⊎ (5 ≤ kind) × (kind ≤ 8) × (kind_of entry ≡ kinds.Methodref)
    ⊎ (6 ≤ kind) × (kind ≤ 7) × (52 ≤ major) × (kind_of entry ≡ kinds.InterfaceMethodref)
    ⊎ (kind ≡ 9) × (kind_of entry ≡ kinds.InterfaceMethodref)

-- the kind of a MethodHandle is not 1 to 9, or no constant that fits it is at the reference_index (JVMS 4.4.8)
abbrev pub BreaksF8 : ClassFile → Constant → Type 0
BreaksF8 c (MethodHandle kind reference) = ¬ ((entry : Constant) × IsEntry c reference entry × FitsHandle c.major kind entry)
BreaksF8 c constant = ⊥

-- a handle of this kind must not refer to a method with this name (JVMS 4.4.8)
abbrev pub IsNameAmiss : ℕ → List ℕ → Type 0
IsNameAmiss kind name =
    (kind ≡ 8) × ¬ IsInit name
    ⊎ ((5 ≤ kind) × (kind ≤ 7) ⊎ (kind ≡ 9)) × (IsInit name ⊎ IsClinit name)

-- a handle refers to a constant that fits its kind, but the name of the method does not (JVMS 4.4.8)
abbrev pub BreaksF9 : ClassFile → Constant → Type 0
BreaksF9 c (MethodHandle kind reference) =
    (entry : Constant) × IsEntry c reference entry × (FitsHandle c.major kind entry × RefersTo c (IsNameAmiss kind) entry)
BreaksF9 c constant = ⊥

-- the text of a MethodType is not a method descriptor (JVMS 4.4.9)
abbrev pub BreaksF10 : ClassFile → Constant → Type 0
BreaksF10 c (MethodTypeEntry descriptor) = HasText c (λ text. ¬ IsMethodDescriptor text) descriptor
BreaksF10 c constant = ⊥

-- the attribute has the two bytes of num_bootstrap_methods, and the number is below their value (JVMS 4.7.23)
abbrev pub Tells : Attribute → ℕ → Type 0
Tells a number = (2 ≤ length a.bytes) × (number < big_number 2 a.bytes)

-- there is exactly one BootstrapMethods attribute, and the number is below its count (JVMS 4.7.23)
abbrev pub IsBootstrapNumber : ClassFile → ℕ → Type 0
IsBootstrapNumber c number = (a : Attribute) × (bootstrap_attributes c ≡ a ∷ []) × Tells a number

-- the bootstrap_method_attr_index of an InvokeDynamic is not below the count of the BootstrapMethods attribute, or the
-- class does not have exactly one such attribute (JVMS 4.4.10, 4.7.23)
abbrev pub BreaksF11 : ClassFile → Constant → Type 0
BreaksF11 c (InvokeDynamic bootstrap entry) = ¬ IsBootstrapNumber c bootstrap
BreaksF11 c constant = ⊥

-- ---- the class (JVMS 4.1)

-- the flag is set
abbrev pub Has : ℕ → ℕ → Type 0
Has flags flag = IsTrue (has flags flag)

abbrev pub IsInterface : ClassFile → Type 0
IsInterface c = Has c.flags interface

-- the flags of the class are not a permitted combination (JVMS 4.1)
abbrev pub BreaksF12 : ClassFile → Type 0
BreaksF12 c =
    IsInterface c × (¬ Has c.flags abstract ⊎ Has c.flags final ⊎ Has c.flags super ⊎ Has c.flags enum)
    ⊎ Has c.flags annotation × ¬ IsInterface c
    ⊎ Has c.flags final × Has c.flags abstract

-- super_class is not permitted: it must be 0 exactly for the class `java/lang/Object`, and else name a class, which for
-- an interface is `java/lang/Object` (JVMS 4.1)
abbrev pub BreaksF13 : ClassFile → Type 0
BreaksF13 c =
    (c.super_class.0 ≡ 0) × (¬ HasClassText c IsObject c.this_class ⊎ IsInterface c)
    ⊎ (c.super_class.0 ≢ 0)
    × (HasClassText c IsObject c.this_class
    ⊎ ¬ HasClassText c IsClassName c.super_class
    ⊎ IsInterface c × ¬ HasClassText c IsObject c.super_class)

-- a direct superinterface is not a Class with the name of a class (JVMS 4.1)
abbrev pub BreaksF14 : ClassFile → ConstantIndex → Type 0
BreaksF14 c index = ¬ HasClassText c IsClassName index

-- the kinds of constants that a bootstrap method may have as arguments (JVMS 4.7.23)
abbrev pub argument_kinds : List ConstantKind
argument_kinds =
    kinds.String ∷ kinds.Class ∷ kinds.Integer ∷ kinds.Long ∷ kinds.Float ∷ kinds.Double
    ∷ kinds.MethodHandle ∷ kinds.MethodType ∷ []

-- the constant at the index is of such a kind
abbrev pub IsArgument : ClassFile → ConstantIndex → Type 0
IsArgument c index = (entry : Constant) × IsEntry c index entry × Contains argument_kinds (kind_of entry)

-- bootstrap_method_ref names a MethodHandle, and each argument is of such a kind (JVMS 4.7.23)
abbrev pub IsBootstrap : ClassFile → Bootstrap → Type 0
IsBootstrap c m = NamesKind c kinds.MethodHandle m.method × All (IsArgument c) m.arguments

-- the class has more than one BootstrapMethods attribute, or one that is not exactly a table of such bootstrap methods
-- (JVMS 4.7.23)
abbrev pub BreaksF27 : ClassFile → Type 0
BreaksF27 c =
    (2 ≤ length (bootstrap_attributes c))
    ⊎ (a : Attribute) × Contains (bootstrap_attributes c) a
    × ¬ ((methods : List Bootstrap) × AreBootstrapsOf a.bytes methods × All (IsBootstrap c) methods)

-- ---- members (JVMS 4.5, 4.6)

-- F18 and F22: the member with this number has the name and the descriptor of an earlier member (JVMS 4.5, 4.6)
pub record IsRepeated (c : ClassFile) (members : List Member) (n : ℕ) : Type 0 where
  pub later : Member
  pub is_later : slice_get members n ≡ Some later
  pub number : ℕ
  pub before : number < n
  pub earlier : Member
  pub is_earlier : slice_get members number ≡ Some earlier
  pub name : List ℕ
  pub later_name : IsEntry c later.name (Utf8 name)
  pub earlier_name : IsEntry c earlier.name (Utf8 name)
  pub descriptor : List ℕ
  pub later_descriptor : IsEntry c later.descriptor (Utf8 descriptor)
  pub earlier_descriptor : IsEntry c earlier.descriptor (Utf8 descriptor)

-- at least two of PUBLIC, PRIVATE and PROTECTED are set
abbrev pub HasTwoAccesses : ℕ → Type 0
HasTwoAccesses flags =
    Has flags public × Has flags private
    ⊎ Has flags public × Has flags protected
    ⊎ Has flags private × Has flags protected

-- ---- fields (JVMS 4.5)

-- the name of a field is not a Utf8 with an unqualified name (JVMS 4.5, 4.2.2)
abbrev pub BreaksF15 : ClassFile → Member → Type 0
BreaksF15 c f = ¬ HasText c IsUnqualifiedName f.name

-- the descriptor of a field is not a Utf8 with a field descriptor (JVMS 4.5, 4.3.2)
abbrev pub BreaksF16 : ClassFile → Member → Type 0
BreaksF16 c f = ¬ HasText c IsFieldDescriptor f.descriptor

-- a field of an interface may have these flags (JVMS 4.5)
pub record AreConstantFlags (flags : ℕ) : Type 0 where
  pub is_public : Has flags public
  pub is_static : Has flags static
  pub is_final : Has flags final
  pub not_private : ¬ Has flags private
  pub not_protected : ¬ Has flags protected
  pub not_volatile : ¬ Has flags volatile
  pub not_transient : ¬ Has flags transient
  pub not_enum : ¬ Has flags enum

-- the flags of a field are not a permitted combination (JVMS 4.5)
abbrev pub BreaksF17 : ClassFile → Member → Type 0
BreaksF17 c f =
    HasTwoAccesses f.flags
    ⊎ Has f.flags final × Has f.flags volatile
    ⊎ IsInterface c × ¬ AreConstantFlags f.flags

-- the descriptor of a static field, and the kind of the constant that initializes the field (JVMS 4.7.2)
abbrev pub initializers : List (List ℕ × ConstantKind)
initializers =
    (codes "I", kinds.Integer) ∷ (codes "S", kinds.Integer) ∷ (codes "C", kinds.Integer)
    ∷ (codes "B", kinds.Integer) ∷ (codes "Z", kinds.Integer)
    ∷ (codes "F", kinds.Float) ∷ (codes "J", kinds.Long) ∷ (codes "D", kinds.Double)
    ∷ (codes "Ljava/lang/String;", kinds.String) ∷ []

-- no kind of constant initializes a field with this descriptor, or the attribute has two bytes and its index names no
-- constant of that kind
abbrev pub Misfits : ClassFile → List ℕ → Attribute → Type 0
Misfits c descriptor a =
    ((kind : ConstantKind) → ¬ Contains initializers (descriptor, kind))
    ⊎ (kind : ConstantKind) × Contains initializers (descriptor, kind)
    × ((length a.bytes ≡ 2) × ¬ NamesKind c kind (index_value a.bytes))

-- a static field has more than one ConstantValue attribute, or one that does not fit its type (JVMS 4.7.2)
abbrev pub BreaksF25 : ClassFile → Member → Type 0
BreaksF25 c f =
    Has f.flags static
    × ((2 ≤ length (values_of c f))
    ⊎ HasText c (λ descriptor. (a : Attribute) × Contains (values_of c f) a × Misfits c descriptor a) f.descriptor)

-- ---- methods (JVMS 4.6)

-- the name of a method is not a Utf8 with a method name (JVMS 4.6, 4.2.2)
abbrev pub BreaksF19 : ClassFile → Member → Type 0
BreaksF19 c m = ¬ HasText c IsMethodName m.name

-- the parameters and the receiver of an instance method take at most 255 slots together; for a static method IsMethod
-- has the bound (JVMS 4.3.3)
abbrev pub FitsSlots : Member → MethodType → Type 0
FitsSlots m type = Has m.flags static ⊎ (sum_by slots_of type.params < 255)

-- the descriptor of a method is not a Utf8 with a method descriptor, or takes too many slots (JVMS 4.6, 4.3.3)
abbrev pub BreaksF20 : ClassFile → Member → Type 0
BreaksF20 c m = ¬ HasText c (λ text. (type : MethodType) × IsMethod text type × FitsSlots m type) m.descriptor

-- a flag is set that an abstract method must not have (JVMS 4.6)
abbrev pub HasMoreThanAbstract : ℕ → Type 0
HasMoreThanAbstract flags =
    Has flags private ⊎ Has flags static ⊎ Has flags final ⊎ Has flags synchronized
    ⊎ Has flags native ⊎ Has flags strict

-- exactly one of the two flags is set
abbrev pub HasOneOf : ℕ → ℕ → ℕ → Type 0
HasOneOf flags a b = (Has flags a ⊎ Has flags b) × ¬ (Has flags a × Has flags b)

-- a method of an interface must not have these flags in a file of this version (JVMS 4.6)
abbrev pub AreBadInterfaceFlags : ℕ → ℕ → Type 0
AreBadInterfaceFlags major flags =
    Has flags protected ⊎ Has flags final ⊎ Has flags synchronized ⊎ Has flags native
    ⊎ (major < 52) × ¬ (Has flags public × Has flags abstract)
    ⊎ (52 ≤ major) × ¬ HasOneOf flags public private

-- a flag is set that a constructor must not have (JVMS 4.6)
abbrev pub HasMoreThanConstructor : ℕ → Type 0
HasMoreThanConstructor flags =
    Has flags static ⊎ Has flags final ⊎ Has flags synchronized ⊎ Has flags bridge
    ⊎ Has flags native ⊎ Has flags abstract

-- the flags of a method other than `<clinit>`, whose flags are ignored, are not a permitted combination (JVMS 4.6)
abbrev pub BreaksF21 : ClassFile → Member → Type 0
BreaksF21 c m =
    ¬ HasText c IsClinit m.name
    × (HasTwoAccesses m.flags
    ⊎ Has m.flags abstract × HasMoreThanAbstract m.flags
    ⊎ IsInterface c × AreBadInterfaceFlags c.major m.flags
    ⊎ HasText c IsInit m.name × HasMoreThanConstructor m.flags)

-- the method is native or abstract, and is not `<clinit>` (JVMS 4.7.3)
abbrev pub IsBodiless : ClassFile → Member → Type 0
IsBodiless c m = (Has m.flags native ⊎ Has m.flags abstract) × ¬ HasText c IsClinit m.name

-- a bodiless method has a Code, or another method does not have exactly one (JVMS 4.7.3)
abbrev pub BreaksF23 : ClassFile → Member → Type 0
BreaksF23 c m = IsBodiless c m × (0 < length (codes_of c m)) ⊎ ¬ IsBodiless c m × (length (codes_of c m) ≢ 1)

-- a Code is not well-formed (JVMS 4.7.3)
abbrev pub BreaksF24 : ClassFile → Member → Type 0
BreaksF24 c m = (a : Attribute) × Contains (codes_of c m) a × ((k : Code) → ¬ IsCodeOf a.bytes k)

-- a method has more than one Exceptions attribute, or one that is not exactly a table of Class indexes (JVMS 4.7.5)
abbrev pub BreaksF26 : ClassFile → Member → Type 0
BreaksF26 c m =
    (2 ≤ length (exceptions_of c m))
    ⊎ (a : Attribute) × Contains (exceptions_of c m) a
    × ¬ ((list : List ConstantIndex) × AreExceptionsOf a.bytes list × All (NamesKind c kinds.Class) list)

-- ---- attributes (JVMS 4.7)

-- the attribute has the name of this kind, and the kind belongs to this holder
abbrev pub IsRecognised : ClassFile → AttributeKind → Holder → Attribute → Type 0
IsRecognised c kind holder a = IsTrue (belongs_to kind holder) × HasText c (λ name. name ≡ attribute_name kind) a.name

-- `of_kind` returns exactly the attributes of a list that are recognised as attributes of this kind
abbrev pub AreRecognised : ClassFile → AttributeKind → Holder → Type 0
AreRecognised c kind holder =
    (list : List Attribute) (a : Attribute)
    → Contains (of_kind c kind holder list) a ↔ Contains list a × IsRecognised c kind holder a

-- the name of an attribute is not a Utf8 (JVMS 4.7)
abbrev pub BreaksF28 : ClassFile → PlacedAttribute → Type 0
BreaksF28 c a = (text : List ℕ) → ¬ IsEntry c a.attribute.name (Utf8 text)

-- the kinds of attributes that have a fixed length (JVMS 4.7.2, 4.7.7 to 4.7.10, 4.7.15)
abbrev pub fixed_lengths : List (AttributeKind × ℕ)
fixed_lengths =
    (attributes.ConstantValue, 2) ∷ (attributes.SourceFile, 2) ∷ (attributes.Signature, 2)
    ∷ (attributes.EnclosingMethod, 4) ∷ (attributes.Synthetic, 0) ∷ (attributes.Deprecated, 0) ∷ []

-- an attribute of such a kind has another length (JVMS 4.7.2, 4.7.7 to 4.7.10, 4.7.15)
abbrev pub BreaksF29 : ClassFile → PlacedAttribute → Type 0
BreaksF29 c a =
    (fixed : AttributeKind × ℕ) × Contains fixed_lengths fixed
    × (IsRecognised c fixed.0 a.holder a.attribute × (length a.attribute.bytes ≢ fixed.1))

-- the attribute is recognised as one of this kind, and has this length
abbrev pub IsSized : ClassFile → AttributeKind → ℕ → PlacedAttribute → Type 0
IsSized c kind len a = IsRecognised c kind a.holder a.attribute × (length a.attribute.bytes ≡ len)

-- an index in a SourceFile, a Signature or an EnclosingMethod of the fixed length names no constant of the right kind;
-- method_index may be 0 (JVMS 4.7.7, 4.7.9, 4.7.10)
abbrev pub BreaksF30 : ClassFile → PlacedAttribute → Type 0
BreaksF30 c a =
    (IsSized c attributes.SourceFile 2 a ⊎ IsSized c attributes.Signature 2 a) × ¬ NamesKind c kinds.Utf8 (first_index a)
    ⊎ IsSized c attributes.EnclosingMethod 4 a
    × (¬ NamesKind c kinds.Class (first_index a)
    ⊎ ((second_index a).0 ≢ 0) × ¬ NamesKind c kinds.NameAndType (second_index a))

-- ---- places

-- the constant at this index breaks a rule
abbrev pub AtConstant : (Constant → Type 0) → ClassFile → ℕ → Type 0
AtConstant Breaks c k = (entry : Constant) × IsEntry c (record { 0 = k }) entry × Breaks entry

-- the element with this number breaks a rule
abbrev pub AtNumber : {X : Type 0} → (X → Type 0) → List X → ℕ → Type 0
AtNumber {X} Breaks xs n = (x : X) × (slice_get xs n ≡ Some x) × Breaks x

-- the attributes of the fields, of the methods and of the class
abbrev pub outer_attributes : ClassFile → List PlacedAttribute
outer_attributes c = flat_map member_attributes (fields_in c) ++ flat_map member_attributes (methods_in c) ++ attributes_in c

-- `outer` is a well-formed Code of a method, and the attribute is in its table of attributes (JVMS 4.7.3)
abbrev pub IsInside : ClassFile → PlacedAttribute → PlacedAttribute → Type 0
IsInside c outer a =
    IsRecognised c attributes.Code outer.holder outer.attribute
    × (k : Code) × IsCodeOf outer.attribute.bytes k × Contains (code_attributes outer k) a

-- an attribute of a field, of a method or of the class, or one inside a well-formed Code
abbrev pub IsAttributeOf : ClassFile → PlacedAttribute → Type 0
IsAttributeOf c a =
    Contains (outer_attributes c) a
    ⊎ (outer : PlacedAttribute) × Contains (outer_attributes c) outer × IsInside c outer a

-- the attribute at this place breaks a rule
abbrev pub AtAttribute : (PlacedAttribute → Type 0) → ClassFile → ℕ → Type 0
AtAttribute Breaks c place = (a : PlacedAttribute) × IsAttributeOf c a × (a.place ≡ place) × Breaks a

-- ---- the rules

-- The rule is broken at this place. The place is the index of a constant, the number of a superinterface, field or
-- method from 0, or the offset of an attribute in the file. A rule about the class has the place 0.
abbrev pub Violates : FormatRule → ClassFile → ℕ → Type 0
Violates rules.F1 c k = AtConstant (BreaksF1 c) c k
Violates rules.F2 c k = AtConstant (BreaksF2 c) c k
Violates rules.F3 c k = AtConstant (BreaksF3 c) c k
Violates rules.F4 c k = AtConstant (BreaksF4 c) c k
Violates rules.F5 c k = AtConstant (BreaksF5 c) c k
Violates rules.F6 c k = AtConstant (BreaksF6 c) c k
Violates rules.F7 c k = AtConstant (BreaksF7 c) c k
Violates rules.F8 c k = AtConstant (BreaksF8 c) c k
Violates rules.F9 c k = AtConstant (BreaksF9 c) c k
Violates rules.F10 c k = AtConstant (BreaksF10 c) c k
Violates rules.F11 c k = AtConstant (BreaksF11 c) c k
Violates rules.F12 c k = (k ≡ 0) × BreaksF12 c
Violates rules.F13 c k = (k ≡ 0) × BreaksF13 c
Violates rules.F14 c k = AtNumber (BreaksF14 c) c.interfaces k
Violates rules.F15 c k = AtNumber (BreaksF15 c) c.fields k
Violates rules.F16 c k = AtNumber (BreaksF16 c) c.fields k
Violates rules.F17 c k = AtNumber (BreaksF17 c) c.fields k
Violates rules.F18 c k = IsRepeated c c.fields k
Violates rules.F19 c k = AtNumber (BreaksF19 c) c.methods k
Violates rules.F20 c k = AtNumber (BreaksF20 c) c.methods k
Violates rules.F21 c k = AtNumber (BreaksF21 c) c.methods k
Violates rules.F22 c k = IsRepeated c c.methods k
Violates rules.F23 c k = AtNumber (BreaksF23 c) c.methods k
Violates rules.F24 c k = AtNumber (BreaksF24 c) c.methods k
Violates rules.F25 c k = AtNumber (BreaksF25 c) c.fields k
Violates rules.F26 c k = AtNumber (BreaksF26 c) c.methods k
Violates rules.F27 c k = (k ≡ 0) × BreaksF27 c
Violates rules.F28 c k = AtAttribute (BreaksF28 c) c k
Violates rules.F29 c k = AtAttribute (BreaksF29 c) c k
Violates rules.F30 c k = AtAttribute (BreaksF30 c) c k
