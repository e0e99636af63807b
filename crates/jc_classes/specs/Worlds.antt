-- Worlds: what each name is, and the transitive supertypes of a name.
use Rattle.std.specs.Prelude.{◌≡◌, ℕ, Bool, true, false, ◌&&◌, cond, List, [], ◌∷◌, ◌++◌, Option, Some, None}
use Rattle.std.specs.Option.{option_to_list}
use Rattle.std.specs.List.{Contains}
use Rattle.jc_classes.specs.Names.{Name, same_name}
use Rattle.jc_file.specs.declared.fault.Fault.{Fault}
use Rattle.jc_code.specs.declared.code_fault.CodeFault.{CodeFault}
use Rattle.jc_file.specs.AccessFlags.{has, interface}
use Rattle.jc_classes.specs.Facts.{Facts, Member, Key, Named, Reference}
use Rattle.jc_classes.specs.Facts.{Named as named}

-- what a name is in a world: a class with its facts, outside, or nothing
pub data Stands : Type 0 where
  Class : Facts → Stands
  Outside : Stands
  Absent : Stands

-- what each name is
abbrev pub World : Type 0
World = Name → Stands

abbrev pub superclass_of : Stands → Option Name
superclass_of (Class r) = r.superclass
superclass_of Outside = None
superclass_of Absent = None

abbrev pub interfaces_of : Stands → List Name
interfaces_of (Class r) = r.interfaces
interfaces_of Outside = []
interfaces_of Absent = []

-- the superclass and the direct superinterfaces, in the order of loading (JVMS 5.3.5)
abbrev pub supertypes_of : Stands → List Name
supertypes_of r = option_to_list (superclass_of r) ++ interfaces_of r

abbrev pub fields_of : Stands → List Member
fields_of (Class r) = r.fields
fields_of Outside = []
fields_of Absent = []

abbrev pub methods_of : Stands → List Member
methods_of (Class r) = r.methods
methods_of Outside = []
methods_of Absent = []

abbrev pub references_of : Stands → List Reference
references_of (Class r) = r.references
references_of Outside = []
references_of Absent = []

abbrev pub format_faults_of : Stands → List Fault
format_faults_of (Class r) = r.format_faults
format_faults_of Outside = []
format_faults_of Absent = []

abbrev pub code_faults_of : Stands → List (ℕ × CodeFault)
code_faults_of (Class r) = r.code_faults
code_faults_of Outside = []
code_faults_of Absent = []

abbrev pub flags_of : Stands → ℕ
flags_of (Class r) = r.flags
flags_of Outside = 0
flags_of Absent = 0

abbrev pub is_interface : Stands → Bool
is_interface r = has (flags_of r) interface

-- a transitive supertype: one or more steps to a direct supertype lead to it
pub data Above (m : World) (bottom : Name) : Name → Type 0 where
  direct : {n : Name} → Contains (supertypes_of (m bottom)) n → Above m bottom n
  further : {mid n : Name} → Above m bottom mid → Contains (supertypes_of (m mid)) n → Above m bottom n

-- the class itself, or one in its chain of superclasses, which ends at a name without a superclass
pub data Extends (m : World) : Name → Name → Type 0 where
  itself : {n : Name} → Extends m n n
  through : {n s c : Name} → superclass_of (m n) ≡ Some s → Extends m s c → Extends m n c

abbrev pub key_of : Member → Key
key_of x = record { name = x.name; descriptor = x.descriptor }

abbrev pub is_at : Key → Member → Bool
is_at k x = same_name x.name k.name && same_name x.descriptor k.descriptor

-- the first member with this name and descriptor, if there is one
abbrev pub member : List Member → Key → Option Member
member [] k = None
member (x ∷ xs) k = cond (is_at k x) (Some x) (member xs k)

-- a member and the class that declares it
pub record Found : Type 0 where
  pub home : Name
  pub member : Member

-- the text of the Class constant: the name of a class, or the descriptor of an array (JVMS 4.4.1)
abbrev pub text_of : Named → Name
text_of (named.Class c) = c
text_of (named.Array t e) = t

abbrev pub is_array : Named → Bool
is_array (named.Class c) = false
is_array (named.Array t e) = true
