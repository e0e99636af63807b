use Rattle.std.proofs.Common.{not}
use Rattle.jc_classes.specs.NameLists.{has}
use Rattle.jc_index.proofs.indexes.Loops.{UnlinkedTo}
use Rattle.jc_index.proofs.index.Index.unlink_all_but.Given as goal

abbrev pub invariant-loop-place : goal.invariant-loop-place
invariant-loop-place l = UnlinkedTo l.initial.self l.self l.names (λ n. not (has l.others n)) l.place l.user
