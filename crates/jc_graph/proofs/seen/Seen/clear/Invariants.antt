use Rattle.std.proofs.Common.{◌≡◌, length}
use Rattle.jc_graph.specs.Seen.{IsListed}
use Rattle.jc_graph.proofs.seen.Seen.clear.Given as goal

abbrev pub invariant-loop-node : goal.invariant-loop-node
invariant-loop-node l = record {
  seen : IsListed l.self-inside.flags.items l.self-inside.list.items;
  size : length l.self-inside.flags.items ≡ length l.fn.self.flags;
}

abbrev pub decreases-loop-node : goal.decreases-loop-node
decreases-loop-node l = length l.self-inside.list.items
