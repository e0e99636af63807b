-- The reach of a class, and its part.
use Rattle.std.specs.Prelude.{◌≡◌, ℕ, Bool, true, false, List, [], ◌∷◌, ◌++◌, Option, Some}
use Rattle.std.specs.List.{Contains}
use Rattle.std.specs.Option.{option_to_list}
use Rattle.jc_file.specs.declared.fault.Fault.{Fault}
use Rattle.jc_code.specs.declared.code_fault.CodeFault.{CodeFault}
use Rattle.jc_classes.specs.Facts.{Named, Reference}
use Rattle.jc_classes.specs.LinkErrors.{LinkError, links_of}
use Rattle.jc_classes.specs.Names.{Name, object}
use Rattle.jc_classes.specs.declared.reference.ReferenceKind.{ReferenceKind}
use Rattle.jc_classes.specs.declared.reference.ReferenceKind.TheVariants as kind
use Rattle.jc_classes.specs.Worlds.{World, supertypes_of, references_of, format_faults_of, code_faults_of, Above}
use Rattle.jc_classes.specs.Facts.Named.{Class, Array}
use Rattle.jc_classes.specs.Loading.{Load, Loading}
use Rattle.jc_classes.specs.Loading.{Loading as loading}
use Rattle.jc_classes.specs.Resolution.{Answer, ResolvesClass, ResolvesField, ResolvesMethod, ResolvesInterfaceMethod}
use Rattle.jc_classes.specs.Resolution.Answer.{NotLoaded}

-- the class that is named; for an array, its innermost class, which an array of a primitive type does not have
abbrev pub class_of : Named → Option Name
class_of (Class c) = Some c
class_of (Array t e) = e

abbrev pub class_in : Named → List Name
class_in t = option_to_list (class_of t)

-- the classes that references name, in the order of the references
abbrev pub names_in : List Reference → List Name
names_in [] = []
names_in (r ∷ rs) = class_in r.named ++ names_in rs

-- the smallest set that contains the class, java/lang/Object, the classes that its references name, and all their
-- supertypes
pub data Reach (m : World) (d : Name) : Name → Type 0 where
  itself : Reach m d d
  always : Reach m d object
  reference : {n : Name} → Contains (names_in (references_of (m d))) n → Reach m d n
  upward : {mid n : Name} → Reach m d mid → Contains (supertypes_of (m mid)) n → Reach m d n

-- the answer to a reference of the class d, by its kind, if d loads (JVMS 5.4.3)
abbrev pub ResolvesOf : World → Name → ReferenceKind → Reference → Answer → Type 0
ResolvesOf m d kind.Class r a = ResolvesClass m d r.named a
ResolvesOf m d kind.Field r a = ResolvesField m d r.named r.key a
ResolvesOf m d kind.Method r a = ResolvesMethod m d r.named r.key a
ResolvesOf m d kind.InterfaceMethod r a = ResolvesInterfaceMethod m d r.named r.key a

-- the answer to a reference of the class d: what the reference resolves to if d loads, else NotLoaded
abbrev pub IsAnswer : World → Name → Loading → Reference → Answer → Type 0
IsAnswer m d loading.Loaded r a = ResolvesOf m d r.kind r a
IsAnswer m d loading.Outside r a = a ≡ NotLoaded
IsAnswer m d (loading.Fails e x) r a = a ≡ NotLoaded

-- the answers to the references, in their order
abbrev pub AreAnswers : World → Name → Loading → List Reference → List Answer → Type 0
AreAnswers m d l [] [] = Unit {0}
AreAnswers m d l (r ∷ rs) (a ∷ more) = IsAnswer m d l r a × AreAnswers m d l rs more
AreAnswers m d l [] (a ∷ more) = ⊥
AreAnswers m d l (r ∷ rs) [] = ⊥

-- what jclink finds out about a class
pub record Part : Type 0 where
  -- whether the class is one of its own transitive supertypes
  pub circular : Bool
  pub load : Loading
  pub format_faults : List Fault
  -- each with the number of its method
  pub code_faults : List (ℕ × CodeFault)
  -- one answer for each reference, in the order of the references
  pub answers : List Answer
  -- the instructions that do not link, although their references resolve
  pub links : List LinkError

-- the part of a name in a world
pub record IsPart (m : World) (d : Name) (p : Part) : Type 0 where
  pub circular : p.circular ≡ true → Above m d d
  pub not_circular : p.circular ≡ false → Above m d d → ⊥
  pub load : Load m d p.load
  pub format_faults : p.format_faults ≡ format_faults_of (m d)
  pub code_faults : p.code_faults ≡ code_faults_of (m d)
  pub answers : AreAnswers m d p.load (references_of (m d)) p.answers
  pub links : p.links ≡ links_of d (m d) p.answers
