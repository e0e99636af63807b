-- The rows so far and those of the references that are left are all.
use Rattle.std.proofs.Common.{◌≡◌, ◌++◌, drop}
use Rattle.jc_report.specs.ClassRows.{rows_required}
use Rattle.jc_report.specs.RequiredRows.{rows_numbered}
use Rattle.jc_report.proofs.required_references.required_numbers.Given as goal

abbrev pub invariant-loop-number : goal.invariant-loop-number
invariant-loop-number l =
    rows_numbered l.references l.numbers.items ++ rows_required (drop l.number l.references) (drop l.number l.answers)
    ≡ rows_required l.references l.answers
