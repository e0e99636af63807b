-- The classes that require a row.
use Rattle.std.specs.Prelude.{◌≡◌, ℕ, List, Option, Some, None, length, slice_get}
use Rattle.std.specs.List.{Contains}
use Rattle.jc_classes.specs.NameLists.{Lists}
use Rattle.jc_classes.specs.Names.{Name}
use Rattle.jc_report.specs.ClassRows.{required_rows}
use Rattle.jc_report.specs.Reports.{Class, GivesRow, name_of}
use Rattle.jc_report.specs.Rows.{AreRows, Row}
use Rattle.jc_linkage.specs.Linkages.{AreHeldClasses, Linkage}

-- the class of this name requires the row
pub record IsHolder (classes : List Class) (row : Row) (name : Name) : Type 0 where
  pub class : Class
  pub among : Contains classes class
  pub named : name_of class ≡ name
  pub gives : Contains (required_rows class.facts class.part) row

-- n is the number of classes that require the row, and 0 if there is no row
abbrev pub CountsHolders : List Class → Option Row → ℕ → Type 0
CountsHolders classes None n = n ≡ 0
CountsHolders classes (Some row) n = (names : List Name) × Lists names (IsHolder classes row) × (n ≡ length names)

-- n is the number of classes that require the row at this place of the sorted required rows
abbrev pub CountsHoldersAt : Linkage → (place n : ℕ) → Type 0
CountsHoldersAt a place n =
    (classes : List Class) → AreHeldClasses a classes
    → (rows : List Row) → AreRows rows (GivesRow required_rows classes) → CountsHolders classes (slice_get rows place) n
