use Rattle.std.proofs.Common.{true}
use Rattle.jc_index.proofs.indexes.Loops.{UnlinkedTo}
use Rattle.jc_report.specs.RequiredRows.{spelled_all}
use Rattle.jc_linkage.proofs.row_index.RowIndex.unlink_all.Given as goal

abbrev pub invariant-loop-row : goal.invariant-loop-row
invariant-loop-row l = UnlinkedTo l.initial.self l.self (spelled_all l.row-items) (λ n. true) l.row-index l.user
