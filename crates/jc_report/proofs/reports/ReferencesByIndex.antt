-- The references of a class that files give are in ascending order of index.
use Rattle.std.proofs.Common.{◌≡◌, ◌==◌, ℕ, Bool, true, false, List, [], length, Some}
use Rattle.std.specs.Prelude.{if◌then◌else◌, Result, Ok, Err}
use Rattle.std.specs.FinMap as fin
use Rattle.std.specs.List.Sorted.{IsStrictlySortedBy}
use Rattle.jc_view.specs.declared.parse_error.ParseError.{ParseError}
use Rattle.jc_view.specs.ClassFile.{ClassFile}
use Rattle.jc_view.specs.Outcome.{class_read}
use Rattle.jc_file.specs.Faults.{faults}
use Rattle.jc_classes.specs.Facts.{Facts}
use Rattle.jc_classes.specs.FactsOf.{facts_of, faulty_facts, sound_facts}
use Rattle.jc_classes.specs.FactsOrder.{AreByIndex}
use Rattle.jc_classes.specs.Names.{Name}
use Rattle.jc_classes.proofs.texts.ReferenceIndexes.{itself, references_rise, through}
use Rattle.jc_report.specs.Files.{Files}
use Rattle.jc_report.specs.FileRows.{winner}
use Rattle.jc_report.specs.Reports.{facts_at, facts_by, facts_there}

-- ---- those of a class file

of_none : AreByIndex []
unfolding IsStrictlySortedBy
of_none = tt

in_facts : (path : List ℕ) (c : ClassFile) → AreByIndex (facts_of path c).references
in_facts path c = by (length (faults c) == 0)
  where
    by : (b : Bool) → AreByIndex (if b then sound_facts path c else faulty_facts path c).references
    by true = references_rise c
    by false = of_none

abbrev AreOrdered : Facts → Type 0
AreOrdered c = AreByIndex c.references

in_read : (path : List ℕ) (read : Result ClassFile ParseError) (c : Facts) → facts_by path read ≡ Some c → AreOrdered c
in_read path (Ok file) c e = itself AreOrdered (facts_of path file) (in_facts path file) c e
in_read path (Err refusal) c e = absurd cc

pub references_by_index : (f : Files) (name : Name) (c : Facts) → facts_at f name ≡ Some c → AreByIndex c.references
references_by_index f name =
    through AreOrdered (winner f name) (λ path. facts_there path (fin.get f path)) (λ path.
    through AreOrdered (fin.get f path) (λ bytes. facts_by path (class_read bytes)) (λ bytes. in_read path (class_read bytes)))
