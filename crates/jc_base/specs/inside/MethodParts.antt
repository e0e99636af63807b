-- The parts of a method descriptor, as the parser finds them.
use Rattle.std.specs.Prelude.{◌≡◌, ℕ, ◌<◌, ◌≤◌, List, ◌++◌, All, length, sum_by, Option, Some, IfSome}
use Rattle.std.specs.List.{concat}
use Rattle.jc_base.specs.Descriptors.{IsFieldDescriptor, slots_of, result_text}
use Rattle.jc_base.specs.FieldsInFront.{field_len, fields_of}

-- the text begins with `first`, which is delimited as a field descriptor, and `rest` follows
pub record HasInFront (text first rest : List ℕ) : Type 0 where
  pub some : 0 < length first
  pub len : field_len text ≡ Some (length first)
  pub split : text ≡ first ++ rest

-- these descriptors are the parameters of some method
pub record AreParams (params : List (List ℕ)) : Type 0 where
  pub each : All IsFieldDescriptor params
  pub few : sum_by slots_of params ≤ 255

-- the parameters at the front of the text, the result and the slots are those of some method
abbrev pub AreParts : List ℕ → Option (List ℕ) → ℕ → Type 0
AreParts text result slots =
    AreParams (fields_of text) × IfSome result IsFieldDescriptor × (slots ≡ sum_by slots_of (fields_of text))

-- the text begins with parameters that take this number of slots, and the rest follows
pub record ReadsParams (text : List ℕ) (slots : ℕ) (rest : List ℕ) : Type 0 where
  pub each : All IsFieldDescriptor (fields_of text)
  pub few : slots ≤ 255
  pub taken : slots ≡ sum_by slots_of (fields_of text)
  pub split : text ≡ concat (fields_of text) ++ rest

-- the text denotes this result
pub record IsResult (b : List ℕ) (result : Option (List ℕ)) : Type 0 where
  pub field : IfSome result IsFieldDescriptor
  pub text : b ≡ result_text result
