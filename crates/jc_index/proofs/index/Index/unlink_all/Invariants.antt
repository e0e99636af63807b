use Rattle.std.proofs.Common.{true}
use Rattle.jc_index.proofs.indexes.Loops.{UnlinkedTo}
use Rattle.jc_index.proofs.index.Index.unlink_all.Given as goal

abbrev pub invariant-loop-place : goal.invariant-loop-place
invariant-loop-place l = UnlinkedTo l.initial.self l.self l.names (λ n. true) l.place l.user
