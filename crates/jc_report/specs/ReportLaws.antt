-- The laws of reports that `laws.rt` states.
use Rattle.std.specs.Prelude.{◌≡◌, ◌↔◌, false, List, [], Some}
use Rattle.jc_classes.specs.Facts.{Facts}
use Rattle.jc_classes.specs.Names.{Name}
use Rattle.jc_classes.specs.FactsOrder.{AreByIndex}
use Rattle.jc_report.specs.ErrorsText.{Asked, all_errors, errors_text, has_error_among, is_wrong_among}
use Rattle.jc_report.specs.Files.{Files}
use Rattle.jc_report.specs.Reports.{IsReport, Report, facts_at, is_wrong}
use Rattle.jc_report.specs.TreeErrors.{IsTreeErrors, TreeErrors}

-- files and prefixes have at most one report
abbrev pub ReportIsOne : Type 0
ReportIsOne = (f : Files) (prefixes : List Name) (r s : Report) → IsReport f prefixes r → IsReport f prefixes s → r ≡ s

-- the text of the errors that are asked for is empty if and only if there are none. There is one if a file or class
-- that is asked for is wrong, or such a class has an error of inheritance or no body for a method
abbrev pub ErrorsAreTold : Type 0
ErrorsAreTold =
    (f : Files) (prefixes : List Name) (asked : Asked) (e : TreeErrors) → IsTreeErrors f prefixes e
    → (errors_text asked e ≡ []) ↔ (has_error_among asked e ≡ false)

-- if all errors are asked for, a file or class that is asked for is wrong if and only if the report is wrong
abbrev pub WrongAmongAll : Type 0
WrongAmongAll = (r : Report) → is_wrong_among all_errors r ≡ is_wrong r

-- the references of a class from a file are in ascending order of index
abbrev pub ReferencesAreByIndex : Type 0
ReferencesAreByIndex = (f : Files) (name : Name) (c : Facts) → facts_at f name ≡ Some c → AreByIndex c.references
