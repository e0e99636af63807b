use Rattle.std.proofs.Common.{◌+◌, ◌-◌, ◌≤◌, length}
use Rattle.jc_graph.specs.Seen.{unseen}
use Rattle.jc_graph.specs.Graph.{successors_of}
use Rattle.jc_graph.specs.inside.Climb.{Rooted, Climbing}
use Rattle.jc_graph.proofs.above.mark_above.Given as goal

abbrev pub invariant-loop-start : goal.invariant-loop-start
invariant-loop-start l = Rooted (length l.graph) (successors_of l.graph) l.starts l.seen.flags l.seen.list l.start-index

abbrev pub invariant-loop-at : goal.invariant-loop-at
invariant-loop-at l = record {
  climbing : Climbing (length l.graph) (successors_of l.graph) l.starts l.seen.flags l.seen.list l.at;
  within : l.at ≤ length l.seen.list;
}

abbrev pub decreases-loop-at : goal.decreases-loop-at
decreases-loop-at l = unseen l.seen.flags + unseen l.seen.flags + (length l.seen.list - l.at)
