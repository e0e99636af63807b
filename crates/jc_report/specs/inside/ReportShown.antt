-- A report in memory, and its classes.
use Rattle.std.specs.Prelude.{◌≡◌, List, map, Some}
use Rattle.std.specs.List.{All, Contains}
use Rattle.std.specs.List.Sorted.{IsStrictlySortedBy}
use Rattle.jc_classes.specs.Facts.{Facts}
use Rattle.jc_classes.specs.Names.{Name, name_cmp}
use Rattle.jc_report.specs.Files.{Files}
use Rattle.jc_report.specs.FileRowView as lent
use Rattle.jc_report.specs.Reports.{Class, IsClassOf, Report, circular_names, facts_at, name_of}
use Rattle.jc_report.specs.RowView.{row_lent}
use Rattle.jc_report.specs.inside.ProvidedInOrder.{provided_in}
use Rattle.jc_report.specs.declared.report.TreeReport.TheInside.{Inside}

abbrev pub report_shown : Inside → Report
report_shown a = record {
  files = map lent.row_lent a.files.items;
  classes = a.classes.items;
  circular = circular_names a.classes.items;
  provided = provided_in a.classes.items;
  required = map row_lent a.required.items;
}

-- the classes are sorted by name
abbrev pub AreByName : List Class → Type 0
AreByName classes = IsStrictlySortedBy name_cmp (map name_of classes)

-- the classes of the files, in the order of their names
pub record AreClasses (f : Files) (prefixes : List Name) (classes : List Class) : Type 0 where
  pub rises : AreByName classes
  pub sound : All (IsClassOf f prefixes) classes
  pub complete : (name : Name) (c : Facts) → facts_at f name ≡ Some c → Contains (map name_of classes) name
