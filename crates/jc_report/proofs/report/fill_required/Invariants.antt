use Rattle.std.proofs.Common.{take}
use Rattle.jc_report.specs.ClassRows.{required_rows}
use Rattle.jc_report.specs.inside.RowSets.{HoldSameRows}
use Rattle.jc_report.proofs.reports.GivenRows.{rows_given}
use Rattle.jc_report.proofs.report.fill_required.Given as goal

-- the rows of the classes so far
abbrev pub invariant-loop-class : goal.invariant-loop-class
invariant-loop-class l = HoldSameRows l.apart (rows_given required_rows (take l.class-index l.classes))
