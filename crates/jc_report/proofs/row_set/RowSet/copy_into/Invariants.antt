use Rattle.std.proofs.Common.{◌≡◌, ◌++◌}
use Rattle.jc_report.proofs.row_set.RowSet.copy_into.Given as goal

-- with the rows that are left
abbrev pub invariant-loop-row : goal.invariant-loop-row
invariant-loop-row l = l.rows.items ++ l.row-iterator ≡ l.fn.rows.items ++ l.initial.row-iterator
