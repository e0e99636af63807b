use Rattle.std.proofs.Common.{not}
use Rattle.jc_classes.specs.NameLists.{has}
use Rattle.jc_index.proofs.indexes.Loops.{LinkedTo}
use Rattle.jc_report.specs.RequiredRows.{spelled_all}
use Rattle.jc_linkage.proofs.row_index.RowIndex.link_all_but.Given as goal

abbrev pub invariant-loop-row : goal.invariant-loop-row
invariant-loop-row l = LinkedTo l.initial.self l.self (spelled_all l.row-items) (λ n. not (has (spelled_all l.others) n)) l.row-index l.user
