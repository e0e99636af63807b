-- A class file as plain data, and its bytes (JVMS 4.1, 4.4 to 4.7).
use Rattle.std.specs.Prelude.{◌≡◌, ℕ, ◌+◌, ◌<◌, ◌^◌, ◌⊎◌, List, [], ◌∷◌, ◌++◌, length}
use Rattle.std.specs.Prelude.{Option, Some, None, if◌then◌else◌, ◌==◌, nat_lt, ◌-◌, option_and_then}
use Rattle.std.specs.List.{flat_map, AllByRecursion}
use Rattle.jc_base.specs.Endian.{big_bytes}
use Rattle.jc_view.specs.declared.constant_pool.ConstantIndex.{ConstantIndex}
use Rattle.jc_view.specs.ConstantPool.{Constant, constant_bytes, FitsConstant, kind_of}
use Rattle.jc_view.specs.ConstantPool.{is_wide, index_bytes, IsIndex, class_name_index, utf8_text}

-- an attribute: its attribute_name_index and its contents, which the JVMS calls info (JVMS 4.7)
pub record Attribute : Type 0 where
  pub name : ConstantIndex
  pub bytes : List ℕ

-- a field or a method (JVMS 4.5, 4.6)
pub record Member : Type 0 where
  pub flags : ℕ
  pub name : ConstantIndex
  pub descriptor : ConstantIndex
  pub attributes : List Attribute

-- a class file (JVMS 4.1); its counts are not kept, since they follow from the lists
pub record ClassFile : Type 0 where
  pub minor : ℕ
  pub major : ℕ
  -- in file order; the first constant has index 1
  pub constants : List Constant
  pub flags : ℕ
  pub this_class : ConstantIndex
  pub super_class : ConstantIndex
  pub interfaces : List ConstantIndex
  pub fields : List Member
  pub methods : List Member
  pub attributes : List Attribute

-- the number of indexes that a constant takes (JVMS 4.4.5)
abbrev pub slots : Constant → ℕ
slots constant = if is_wide (kind_of constant) then 2 else 1

-- the number of indexes that these constants take
abbrev pub all_slots : List Constant → ℕ
all_slots [] = 0
all_slots (constant ∷ constants) = slots constant + all_slots constants

-- ---- bytes

-- the length of a table as two bytes, then its entries
abbrev pub counted : {X : Type 0} → (X → List ℕ) → List X → List ℕ
counted bytes table = big_bytes 2 (length table) ++ flat_map bytes table

abbrev pub attribute_bytes : Attribute → List ℕ
attribute_bytes a = index_bytes a.name ++ big_bytes 4 (length a.bytes) ++ a.bytes

abbrev pub member_bytes : Member → List ℕ
member_bytes m = big_bytes 2 m.flags ++ index_bytes m.name ++ index_bytes m.descriptor ++ counted attribute_bytes m.attributes

abbrev pub magic : ℕ
magic = 0xcafebabe

-- the bytes before the constants: magic, minor_version, major_version and constant_pool_count
abbrev pub head_bytes : ClassFile → List ℕ
head_bytes c = big_bytes 4 magic ++ big_bytes 2 c.minor ++ big_bytes 2 c.major ++ big_bytes 2 (1 + all_slots c.constants)

-- the bytes after the constants: from access_flags to the attributes of the class
abbrev pub tail_bytes : ClassFile → List ℕ
tail_bytes c =
    big_bytes 2 c.flags ++ index_bytes c.this_class ++ index_bytes c.super_class ++ counted index_bytes c.interfaces
    ++ counted member_bytes c.fields ++ counted member_bytes c.methods ++ counted attribute_bytes c.attributes

-- all bytes of a class file (JVMS 4.1)
unfoldable pub layout : ClassFile → List ℕ
layout c = head_bytes c ++ flat_map constant_bytes c.constants ++ tail_bytes c

-- if the bytes of the first class file are a prefix of those of the second, the two are equal
abbrev pub AreApart : ClassFile → ClassFile → Type 0
AreApart c d = (rest : List ℕ) → layout c ++ rest ≡ layout d → (rest ≡ []) × (c ≡ d)

-- ---- which class files have a layout

-- a table whose length fits its count
abbrev pub FitsTable : {X : Type 0} → (X → Type 0) → List X → Type 0
FitsTable Fits table = (length table < 2 ^ 16) × AllByRecursion Fits table

pub record FitsAttribute (a : Attribute) : Type 0 where
  pub name : IsIndex a.name
  pub bytes : length a.bytes < 2 ^ 32

pub record FitsMember (m : Member) : Type 0 where
  pub flags : m.flags < 2 ^ 16
  pub name : IsIndex m.name
  pub descriptor : IsIndex m.descriptor
  pub attributes : FitsTable FitsAttribute m.attributes

-- version 51 with any minor version, and 52.0: from 51.0 on, all that Java SE 8 supports (JVMS 4.1)
abbrev pub IsAcceptedVersion : ℕ → ℕ → Type 0
IsAcceptedVersion major minor = (major ≡ 51) ⊎ ((major ≡ 52) × (minor ≡ 0))

-- the version is accepted, and all numbers and lengths fit the bytes that encode them
pub record FitsClassFile (c : ClassFile) : Type 0 where
  pub minor : c.minor < 2 ^ 16
  pub version : IsAcceptedVersion c.major c.minor
  -- constant_pool_count, which is one more than the number of indexes, fits two bytes
  pub indexes : 1 + all_slots c.constants < 2 ^ 16
  pub constants : AllByRecursion FitsConstant c.constants
  pub flags : c.flags < 2 ^ 16
  pub this_class : IsIndex c.this_class
  pub super_class : IsIndex c.super_class
  pub interfaces : FitsTable IsIndex c.interfaces
  pub fields : FitsTable FitsMember c.fields
  pub methods : FitsTable FitsMember c.methods
  pub attributes : FitsTable FitsAttribute c.attributes

-- ---- constants by index

-- the constant at an index, which is counted from 0; the second index of a Long or a Double has none
abbrev pub constant_from_first : List Constant → ℕ → Option Constant
constant_from_first [] i = None
constant_from_first (constant ∷ constants) i =
    if i == 0 then Some constant else if nat_lt i (slots constant) then None else constant_from_first constants (i - slots constant)

-- the constant at an index of the constant pool, if there is one. Neither index 0 nor the second index of a Long or a
-- Double has a constant (JVMS 4.1, 4.4.5)
abbrev pub constant_at : ClassFile → ConstantIndex → Option Constant
constant_at c index = if index.0 == 0 then None else constant_from_first c.constants (index.0 - 1)

infixl 10 ◌>>=◌
abbrev ◌>>=◌ : {A B : Type 0} → Option A → (A → Option B) → Option B
o >>= f = option_and_then f o

-- the text of the Class constant at an index: that of the Utf8 constant at its name_index (JVMS 4.4.1)
abbrev pub class_text_at : ClassFile → ConstantIndex → Option (List ℕ)
class_text_at c index = do
  class ← constant_at c index
  entry ← class_name_index class
  text ← constant_at c entry
  utf8_text text
