-- What a view returns: its members, its attributes and the code of its methods, each with its class.
use Rattle.jc_view.specs.declared.constant_pool.Constant.{Constant}
use Rattle.jc_view.specs.declared.constant_pool.Constant.TheVariants as lent
use Rattle.jc_view.specs.ConstantPool as pool
use Rattle.jc_view.specs.declared.code.ExceptionHandler.{ExceptionHandler}
use Rattle.std.specs.Prelude.{◌≡◌, ℕ, List, [], ◌∷◌, map, Option, Some}
use Rattle.std.specs.List.{Contains}
use Rattle.std.specs.Option.{MatchOption}
use Rattle.jc_view.specs.declared.constant_pool.ConstantIndex.{ConstantIndex}
use Rattle.jc_view.specs.ClassFile.{ClassFile, class_text_at, constant_at, layout}
use Rattle.jc_view.specs.Lookups.{utf8_at}
use Rattle.jc_view.specs.Places.{PlacedAttribute, PlacedMember, HasBytesAt, HasInstructionsAt, IsLent}
use Rattle.jc_view.specs.AttributeReading.{all_attributes, code_of}
use Rattle.jc_view.specs.Attributes.{Code, Handler}

-- ---- what an iterator has left

pub record InterfacesLeft : Type 0 where
  pub class : ClassFile
  pub left : List ConstantIndex

pub record MembersLeft : Type 0 where
  pub class : ClassFile
  pub left : List PlacedMember

pub record AttributesLeft : Type 0 where
  pub class : ClassFile
  pub left : List PlacedAttribute

-- ---- what an iterator returns

pub record LentMember : Type 0 where
  pub class : ClassFile
  pub member : PlacedMember

pub record LentAttribute : Type 0 where
  pub class : ClassFile
  pub attribute : PlacedAttribute

-- the code in an attribute
pub record LentCode : Type 0 where
  pub class : ClassFile
  pub attribute : PlacedAttribute
  pub code : Code

abbrev pub lent_code : LentAttribute → Code → LentCode
lent_code lent code = record { class = lent.class; attribute = lent.attribute; code = code }

-- the texts of the Class constants of the interfaces that are left; None for an index without such a text
abbrev pub interface_names : InterfacesLeft → List (Option (List ℕ))
interface_names interfaces = map (class_text_at interfaces.class) interfaces.left

-- ---- one step of an iterator: it returns the first element that is left

-- the iterator `old` returns its first member and becomes `new`, which has the others left; it returns None if it has
-- none left
abbrev pub GivesMember : MembersLeft → Option LentMember → MembersLeft → Type 0
GivesMember old result new =
    (new.class ≡ old.class)
    × MatchOption result ((old.left ≡ []) × (new.left ≡ []))
    (λ item. (old.left ≡ item.member ∷ new.left) × (item.class ≡ old.class))

abbrev pub GivesAttribute : AttributesLeft → Option LentAttribute → AttributesLeft → Type 0
GivesAttribute old result new =
    (new.class ≡ old.class)
    × MatchOption result ((old.left ≡ []) × (new.left ≡ []))
    (λ item. (old.left ≡ item.attribute ∷ new.left) × (item.class ≡ old.class))

-- ---- constants

-- a borrowed constant as data
abbrev pub constant_of : Constant → pool.Constant
constant_of (lent.Utf8 text) = pool.Utf8 text.now
constant_of (lent.Integer bits) = pool.Integer bits
constant_of (lent.Float bits) = pool.Float bits
constant_of (lent.Long bits) = pool.Long bits
constant_of (lent.Double bits) = pool.Double bits
constant_of (lent.Class name) = pool.Class name
constant_of (lent.String text) = pool.String text
constant_of (lent.Fieldref class name_and_type) = pool.Fieldref class name_and_type
constant_of (lent.Methodref class name_and_type) = pool.Methodref class name_and_type
constant_of (lent.InterfaceMethodref class name_and_type) = pool.InterfaceMethodref class name_and_type
constant_of (lent.NameAndType name descriptor) = pool.NameAndType name descriptor
constant_of (lent.MethodHandle kind reference) = pool.MethodHandle kind reference
constant_of (lent.MethodType descriptor) = pool.MethodType descriptor
constant_of (lent.InvokeDynamic bootstrap name_and_type) = pool.InvokeDynamic bootstrap name_and_type

-- ---- an exception handler, as data

abbrev pub handler_of : ExceptionHandler → Handler
handler_of h = record { start_pc = h.start_pc; end_pc = h.end_pc; handler_pc = h.handler_pc; catch_type = h.catch_type }

-- ---- where in the file the texts, attributes and instructions are

-- the text of each Utf8 constant is the part of the file after the tag and the length of the constant
abbrev pub TextsLieIn : ClassFile → Type 0
TextsLieIn c = (index : ConstantIndex) (text : List ℕ) → utf8_at c index ≡ Some text → IsLent c index text

-- the text of each Class constant is the part of the file that is the text of the Utf8 constant at its name_index
abbrev pub ClassTextsLieIn : ClassFile → Type 0
ClassTextsLieIn c =
    (index : ConstantIndex) (text : List ℕ) → class_text_at c index ≡ Some text
    → (entry : ConstantIndex) × (constant_at c index ≡ Some (pool.Class entry)) × IsLent c entry text

-- the instructions of each Code are the bytes after max_stack, max_locals and code_length
abbrev pub InstructionsLieIn : ClassFile → Type 0
InstructionsLieIn c =
    (a : PlacedAttribute) (k : Code) → Contains (all_attributes c) a → code_of c a ≡ Some k
    → HasInstructionsAt (layout c) a.place k.code

-- the contents of each attribute are the bytes after attribute_name_index and attribute_length
abbrev pub AttributesLieIn : ClassFile → Type 0
AttributesLieIn c = (a : PlacedAttribute) → Contains (all_attributes c) a → HasBytesAt (layout c) a
