-- The rows so far and those of the references that are left are all.
use Rattle.std.proofs.Common.{◌++◌, drop}
use Rattle.jc_report.specs.ClassRows.{rows_required}
use Rattle.jc_report.specs.inside.RowSets.{HoldSameRows}
use Rattle.jc_report.proofs.class_rows.push_required.Given as goal

abbrev pub invariant-loop-number : goal.invariant-loop-number
invariant-loop-number l =
    HoldSameRows (l.rows ++ rows_required (drop l.number l.facts.references) (drop l.number l.answers)) (l.fn.rows ++ rows_required l.facts.references l.answers)
