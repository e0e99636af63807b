-- The attributes that are recognised, and the contents of those with tables (JVMS 4.7).
use Rattle.std.specs.Prelude.{◌≡◌, ℕ, ◌+◌, ◌<◌, ◌^◌, Bool, true, false}
use Rattle.std.specs.Prelude.{◌&&◌, List, ◌++◌, length, drop, filter, codes, Option}
use Rattle.std.specs.Option.{option_map_or}
use Rattle.jc_base.specs.Bytes.{same_bytes}
use Rattle.jc_base.specs.Endian.{big_bytes}
use Rattle.jc_view.specs.declared.constant_pool.ConstantIndex.{ConstantIndex}
use Rattle.jc_view.specs.declared.attribute_kind.Holder.{Holder}
use Rattle.jc_view.specs.declared.attribute_kind.Holder.TheVariants as holders
use Rattle.jc_view.specs.declared.attribute_kind.AttributeKind.{AttributeKind}
use Rattle.jc_view.specs.declared.attribute_kind.AttributeKind.TheVariants as kinds
use Rattle.jc_view.specs.ConstantPool.{IsIndex, index_bytes, index_value}
use Rattle.jc_view.specs.ClassFile.{Attribute, ClassFile, counted, attribute_bytes, FitsTable, FitsAttribute, Member}
use Rattle.jc_view.specs.Lookups.{utf8_at, passes}
use Rattle.jc_view.specs.Places.{PlacedAttribute, attributes_from}

-- ---- which attributes are recognised, and in which holder

abbrev pub attribute_name : AttributeKind → List ℕ
attribute_name kinds.ConstantValue = codes "ConstantValue"
attribute_name kinds.Code = codes "Code"
attribute_name kinds.Exceptions = codes "Exceptions"
attribute_name kinds.BootstrapMethods = codes "BootstrapMethods"
attribute_name kinds.SourceFile = codes "SourceFile"
attribute_name kinds.EnclosingMethod = codes "EnclosingMethod"
attribute_name kinds.Signature = codes "Signature"
attribute_name kinds.Synthetic = codes "Synthetic"
attribute_name kinds.Deprecated = codes "Deprecated"

-- the holder is a class, a field or a method, and not a Code
abbrev pub is_outer : Holder → Bool
is_outer holders.Code = false
is_outer holder = true

abbrev pub is_class : Holder → Bool
is_class holders.Class = true
is_class holder = false

abbrev pub is_field : Holder → Bool
is_field holders.Field = true
is_field holder = false

abbrev pub is_method : Holder → Bool
is_method holders.Method = true
is_method holder = false

-- the kind of attribute is defined for this holder (JVMS 4.7, table 4.7-C). An attribute in another holder is not
-- recognised
abbrev pub belongs_to : AttributeKind → Holder → Bool
belongs_to kinds.ConstantValue holder = is_field holder
belongs_to kinds.Code holder = is_method holder
belongs_to kinds.Exceptions holder = is_method holder
belongs_to kinds.BootstrapMethods holder = is_class holder
belongs_to kinds.SourceFile holder = is_class holder
belongs_to kinds.EnclosingMethod holder = is_class holder
belongs_to kinds.Signature holder = is_outer holder
belongs_to kinds.Synthetic holder = is_outer holder
belongs_to kinds.Deprecated holder = is_outer holder

-- an attribute of this holder is recognised as one of this kind. The kind is defined for the holder, and the Utf8
-- constant at attribute_name_index is the name of the kind
abbrev pub is_recognised : ClassFile → AttributeKind → Holder → Attribute → Bool
is_recognised c kind holder a = belongs_to kind holder && passes (λ name. same_bytes name (attribute_name kind)) (utf8_at c a.name)

-- this kind was found: two kinds with the same name are the same kind
abbrev pub is_kind : AttributeKind → Option AttributeKind → Bool
is_kind kind found = option_map_or (λ other. same_bytes (attribute_name other) (attribute_name kind)) found false

-- the attribute is recognised as an attribute of the kind that was found, and of no other kind; of none at `None`
abbrev pub IsRecognisedAs : ClassFile → Holder → Attribute → Option AttributeKind → Type 0
IsRecognisedAs c holder a found = (kind : AttributeKind) → is_recognised c kind holder a ≡ is_kind kind found

-- those of the holder's attributes that are recognised as attributes of this kind
abbrev pub of_kind : ClassFile → AttributeKind → Holder → List Attribute → List Attribute
of_kind c kind holder attributes = filter (is_recognised c kind holder) attributes

-- ---- Code (JVMS 4.7.3)

-- an entry of the exception table
pub record Handler : Type 0 where
  pub start_pc : ℕ
  pub end_pc : ℕ
  pub handler_pc : ℕ
  pub catch_type : ConstantIndex

-- the contents of a Code attribute, without the counts, which follow from the lists
pub record Code : Type 0 where
  pub max_stack : ℕ
  pub max_locals : ℕ
  pub code : List ℕ
  pub handlers : List Handler
  pub attributes : List Attribute

abbrev pub handler_bytes : Handler → List ℕ
handler_bytes h = big_bytes 2 h.start_pc ++ big_bytes 2 h.end_pc ++ big_bytes 2 h.handler_pc ++ index_bytes h.catch_type

-- the bytes of a Code before its attributes
abbrev pub code_front : Code → List ℕ
code_front k =
    big_bytes 2 k.max_stack ++ big_bytes 2 k.max_locals
    ++ big_bytes 4 (length k.code) ++ k.code ++ counted handler_bytes k.handlers

unfoldable pub code_bytes : Code → List ℕ
code_bytes k = code_front k ++ counted attribute_bytes k.attributes

pub record FitsHandler (h : Handler) : Type 0 where
  pub start_pc : h.start_pc < 2 ^ 16
  pub end_pc : h.end_pc < 2 ^ 16
  pub handler_pc : h.handler_pc < 2 ^ 16
  pub catch_type : IsIndex h.catch_type

-- all numbers and lengths fit the bytes that encode them, and there are 1 to 65,535 bytes of instructions
-- (JVMS 4.7.3, 4.9.1)
pub record FitsCode (k : Code) : Type 0 where
  pub max_stack : k.max_stack < 2 ^ 16
  pub max_locals : k.max_locals < 2 ^ 16
  pub some : 0 < length k.code
  pub few : length k.code < 2 ^ 16
  pub handlers : FitsTable FitsHandler k.handlers
  pub attributes : FitsTable FitsAttribute k.attributes

-- the bytes are the contents of a Code attribute: those of this well-formed Code and no further bytes
pub record IsCodeOf (b : List ℕ) (k : Code) : Type 0 where
  pub fits : FitsCode k
  pub bytes : code_bytes k ≡ b

-- ---- Exceptions (JVMS 4.7.5)

-- the bytes are the contents of an Exceptions attribute: this table of indexes and no further bytes
pub record AreExceptionsOf (b : List ℕ) (exceptions : List ConstantIndex) : Type 0 where
  pub fits : FitsTable IsIndex exceptions
  pub bytes : counted index_bytes exceptions ≡ b

-- ---- BootstrapMethods (JVMS 4.7.23)

-- an entry of bootstrap_methods: its bootstrap_method_ref and its bootstrap_arguments
pub record Bootstrap : Type 0 where
  pub method : ConstantIndex
  pub arguments : List ConstantIndex

abbrev pub bootstrap_bytes : Bootstrap → List ℕ
bootstrap_bytes m = index_bytes m.method ++ counted index_bytes m.arguments

pub record FitsBootstrap (m : Bootstrap) : Type 0 where
  pub method : IsIndex m.method
  pub arguments : FitsTable IsIndex m.arguments

-- the bytes are the contents of a BootstrapMethods attribute: this table and no further bytes
pub record AreBootstrapsOf (b : List ℕ) (methods : List Bootstrap) : Type 0 where
  pub fits : FitsTable FitsBootstrap methods
  pub bytes : counted bootstrap_bytes methods ≡ b

-- ---- places of the attributes of a Code

-- the attributes of the Code in this attribute; they begin after attribute_name_index, attribute_length, the front of
-- the Code and their count
abbrev pub code_attributes : PlacedAttribute → Code → List PlacedAttribute
code_attributes a k = attributes_from holders.Code (a.place + 6 + length (code_front k) + 2) k.attributes

-- ---- attributes of a class file, by kind

-- the BootstrapMethods attributes of the class
abbrev pub bootstrap_attributes : ClassFile → List Attribute
bootstrap_attributes c = of_kind c kinds.BootstrapMethods holders.Class c.attributes

-- the ConstantValue attributes of a field (JVMS 4.7.2)
abbrev pub values_of : ClassFile → Member → List Attribute
values_of c f = of_kind c kinds.ConstantValue holders.Field f.attributes

-- the Code attributes of a method (JVMS 4.7.3)
abbrev pub codes_of : ClassFile → Member → List Attribute
codes_of c m = of_kind c kinds.Code holders.Method m.attributes

-- the Exceptions attributes of a method (JVMS 4.7.5)
abbrev pub exceptions_of : ClassFile → Member → List Attribute
exceptions_of c m = of_kind c kinds.Exceptions holders.Method m.attributes

-- the index in the first two bytes of an attribute's contents
abbrev pub first_index : PlacedAttribute → ConstantIndex
first_index a = index_value a.attribute.bytes

-- the index in the third and fourth byte of an attribute's contents
abbrev pub second_index : PlacedAttribute → ConstantIndex
second_index a = index_value (drop 2 a.attribute.bytes)
