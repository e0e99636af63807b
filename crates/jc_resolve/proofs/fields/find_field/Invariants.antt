use Rattle.jc_classes.specs.Lent.{key_lent}
use Rattle.std.proofs.Common.{◌+◌, ◌*◌, ◌^◌, length, reverse}
use Rattle.jc_graph.specs.Seen.{unseen}
use Rattle.jc_numbered.specs.inside.Shown.{indexed_of}
use Rattle.jc_resolve.specs.inside.Looking.{Going}
use Rattle.jc_resolve.proofs.fields.find_field.Given as goal

abbrev pub invariant-loop-node : goal.invariant-loop-node
invariant-loop-node l = Going (length l.classes.standing.now) (indexed_of l.classes) (key_lent l.key) l.start (reverse l.stack.items) l.seen.flags

abbrev pub decreases-loop-node : goal.decreases-loop-node
decreases-loop-node l = unseen l.seen.flags * 2 ^ 66 + length l.stack.items
