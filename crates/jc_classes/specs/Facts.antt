-- The facts of a class file: the data that linking uses.
use Rattle.std.specs.Prelude.{◌≡◌, ℕ, ◌<◌, Bool, List, Option, Some, length, slice_get, ◌==◌, not}
use Rattle.std.specs.List.{All, Contains}
use Rattle.jc_file.specs.declared.fault.Fault.{Fault}
use Rattle.jc_code.specs.declared.code_fault.CodeFault.{CodeFault}
use Rattle.jc_code.specs.declared.method_use.MethodUse.{MethodUse}
use Rattle.jc_classes.specs.Names.{Name}
use Rattle.jc_classes.specs.declared.reference.ReferenceKind.{ReferenceKind}
use Rattle.jc_classes.specs.declared.used.User.{User}

-- a field or a method, as a class declares it
pub record Member : Type 0 where
  pub name : Name
  pub descriptor : Name
  pub flags : ℕ

-- the name and the descriptor of the member that a reference names
pub record Key : Type 0 where
  pub name : Name
  pub descriptor : Name

-- what a Class constant names (JVMS 4.4.1): a class, or an array and its innermost class, if it has one
pub data Named : Type 0 where
  Class : (name : Name) → Named
  Array : (text : Name) (innermost : Option Name) → Named

-- a symbolic reference (JVMS 5.1), and the index of its constant. A reference to a class has an empty key
pub record Reference : Type 0 where
  pub index : ℕ
  pub kind : ReferenceKind
  pub named : Named
  pub key : Key

-- two references, given by number, have the same kind, class and key
abbrev pub AreAlike : List Reference → ℕ → ℕ → Type 0
AreAlike rs a b =
    (r s : Reference) → slice_get rs a ≡ Some r → slice_get rs b ≡ Some s
    → (r.kind ≡ s.kind) × (r.named ≡ s.named) × (r.key ≡ s.key)

-- the reference of number k is before that of `number`, and both name the same class
abbrev pub IsNamedBefore : List Reference → ℕ → ℕ → Type 0
IsNamedBefore rs number k =
    (k < number) × ((r s : Reference) → slice_get rs k ≡ Some r → slice_get rs number ≡ Some s → r.named ≡ s.named)

-- all numbers below a count and no others, in some order; a number may occur several times
pub record AreNumbers (count : ℕ) (numbers : List ℕ) : Type 0 where
  pub within : All (λ n. n < count) numbers
  pub each : (n : ℕ) → n < count → Contains numbers n

pub record Facts : Type 0 where
  pub path : List ℕ
  pub name : Name
  pub flags : ℕ
  pub superclass : Option Name
  -- in file order
  pub interfaces : List Name
  pub fields : List Member
  pub methods : List Member
  -- in ascending order of index
  pub references : List Reference
  -- how instructions use references, by method, then by offset
  pub uses : List MethodUse
  -- what uses each reference, in the order of the references
  pub users : List User
  pub format_faults : List Fault
  -- each with the number of its method
  pub code_faults : List (ℕ × CodeFault)

abbrev pub is_faulty : Facts → Bool
is_faulty f = not (length f.format_faults == 0)
