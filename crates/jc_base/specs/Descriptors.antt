-- Descriptors of fields and methods, and the types that they denote (JVMS 4.3).
use Rattle.std.specs.Prelude.{◌≡◌, ℕ, ◌≤◌, ◌⊎◌, List, [], ◌∷◌, ◌++◌, All, Contains}
use Rattle.std.specs.Prelude.{codes, replicate, sum_by, Option, Some, None, IfSome, if◌then◌else◌, ◌||◌}
use Rattle.std.specs.List.{concat}
use Rattle.jc_base.specs.Bytes.{same_bytes}
use Rattle.jc_base.specs.Names.{IsClassName}

-- the letters of the primitive types (JVMS 4.3.2)
abbrev pub base_types : List ℕ
base_types = codes "BCDFIJSZ"

-- the descriptor of a primitive type
abbrev pub IsBaseType : List ℕ → Type 0
IsBaseType b = (letter : ℕ) × Contains base_types letter × (b ≡ letter ∷ [])

-- the descriptor of a class or interface
abbrev pub IsClassType : List ℕ → Type 0
IsClassType b = (name : List ℕ) × IsClassName name × (b ≡ codes "L" ++ name ++ codes ";")

-- the descriptor of a type that is not an array
abbrev pub IsElementType : List ℕ → Type 0
IsElementType b = IsBaseType b ⊎ IsClassType b

-- a field type: the number of its dimensions, and the descriptor of its element type
pub record FieldType : Type 0 where
  pub dims : ℕ
  pub element : List ℕ

-- the descriptor of the type
abbrev pub field_text : FieldType → List ℕ
field_text type = replicate type.dims 91 ++ type.element

-- the text is the descriptor of this field type (JVMS 4.3.2)
pub record IsField (b : List ℕ) (type : FieldType) : Type 0 where
  pub few : type.dims ≤ 255
  pub element : IsElementType type.element
  pub text : b ≡ field_text type

-- a field descriptor
abbrev pub IsFieldDescriptor : List ℕ → Type 0
IsFieldDescriptor b = (type : FieldType) × IsField b type

-- the number of slots that a parameter with this descriptor takes (JVMS 4.3.3)
abbrev pub slots_of : List ℕ → ℕ
slots_of b = if same_bytes b (codes "J") || same_bytes b (codes "D") then 2 else 1

-- a method type: the descriptors of its parameters, and that of its result, which is `None` for `void`
pub record MethodType : Type 0 where
  pub params : List (List ℕ)
  pub result : Option (List ℕ)

-- the descriptor of the result
abbrev pub result_text : Option (List ℕ) → List ℕ
result_text (Some b) = b
result_text None = codes "V"

-- the text is the descriptor of this method type (JVMS 4.3.3). The parameters take at most 255 slots, and the slot of
-- `this` is not counted here
pub record IsMethod (b : List ℕ) (type : MethodType) : Type 0 where
  pub params : All IsFieldDescriptor type.params
  pub result : IfSome type.result IsFieldDescriptor
  pub few : sum_by slots_of type.params ≤ 255
  pub text : b ≡ codes "(" ++ concat type.params ++ codes ")" ++ result_text type.result

-- a method descriptor
abbrev pub IsMethodDescriptor : List ℕ → Type 0
IsMethodDescriptor b = (type : MethodType) × IsMethod b type
