-- The classes of a linkage, and the world that they form with the outside prefixes.
use Rattle.std.specs.Prelude.{◌≡◌, Bool, Decides, false, not, List, Some, is_some, map}
use Rattle.std.specs.List.{All, Contains}
use Rattle.std.specs.List.Sorted.{IsStrictlySortedBy}
use Rattle.jc_classes.specs.Facts.{Facts}
use Rattle.jc_classes.specs.Names.{Name, name_cmp}
use Rattle.jc_classes.specs.Parts.{IsPart, Part}
use Rattle.jc_classes.specs.Worlds.{World}
use Rattle.jc_link.specs.Tables.{Places, class_at, world}
use Rattle.jc_link.specs.declared.meter.Meter.{Meter}
use Rattle.jc_report.specs.Reports.{Class, GivesRow, name_of}
use Rattle.jc_report.specs.Rows.{AreRows, Row}
use Rattle.jc_linkage.specs.Affected.{IsCounted, counts_of}
use Rattle.jc_linkage.specs.Switches.{switches}

-- the classes that files give, by name, and the outside prefixes
pub record Linkage : Type 0 where
  pub classes : Places
  pub prefixes : List Name

-- whether a file gives the class
abbrev pub given : Linkage → Name → Bool
given a n = is_some (class_at a.classes n)

abbrev pub world_held : Linkage → World
world_held a = world a.classes a.prefixes

-- the class has the facts that the linkage has for its name, and its part in the world of the linkage
pub record IsHeldClass (a : Linkage) (c : Class) : Type 0 where
  pub facts : class_at a.classes (name_of c) ≡ Some c.facts
  pub part : IsPart (world_held a) (name_of c) c.part

-- the classes that files give, with their parts, sorted by name
pub record AreHeldClasses (a : Linkage) (classes : List Class) : Type 0 where
  pub rises : IsStrictlySortedBy name_cmp (map name_of classes)
  pub sound : All (IsHeldClass a) classes
  pub complete : (name : Name) (c : Facts) → class_at a.classes name ≡ Some c → Contains (map name_of classes) name

-- the rows that `rows_by` has for the classes that files give, sorted, each once
abbrev pub AreRowsHeld : (Facts → Part → List Row) → Linkage → List Row → Type 0
AreRowsHeld rows_by a rows = (classes : List Class) → AreHeldClasses a classes → AreRows rows (GivesRow rows_by classes)

-- ---- the cost of an edit

-- the name has the same class before and after, and does not become outside or stop being outside
abbrev pub IsSameAt : (old new : Linkage) → Name → Type 0
IsSameAt old new n = (class_at old.classes n ≡ class_at new.classes n) × (switches new.classes old.prefixes new.prefixes n ≡ false)

-- the test is true of exactly the names that are not the same before and after
abbrev pub TellsTouched : (old new : Linkage) → (touched : Name → Bool) → Type 0
TellsTouched old new touched = (n : Name) → Decides (not (touched n)) (IsSameAt old new n)

-- the meter counted the parts and the look-ups of an edit from `old` to `new`
pub record IsCountedChange (old new : Linkage) (before behind : Meter) : Type 0 where
  pub touched : Name → Bool
  pub tells : TellsTouched old new touched
  pub counted : IsCounted (given new) (world_held new) touched (counts_of before) (counts_of behind)
