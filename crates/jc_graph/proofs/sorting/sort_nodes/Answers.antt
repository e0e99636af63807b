use Rattle.std.proofs.Common.{length, arith}
use Rattle.jc_graph.specs.Graph.{successors_of}
use Rattle.jc_graph.specs.inside.Walk.{state_of}
use Rattle.jc_graph.proofs.walks.Whole.{whole_circular, whole_order}
use Rattle.jc_graph.proofs.sorting.sort_nodes.Goals as goal

pub returns-clause-circular : goal.returns-clause-circular
returns-clause-circular c =
    let i = c.loop-node.invariant in
    whole_circular (successors_of c.args.graph.now) (length c.args.graph.now) (state_of c.loop-node.walk) i.walk i.empty (λ v l. i.seen v (omega arith))

pub returns-clause-order : goal.returns-clause-order
returns-clause-order c =
    let i = c.loop-node.invariant in
    whole_order (successors_of c.args.graph.now) (length c.args.graph.now) (state_of c.loop-node.walk) i.walk i.empty (λ v l. i.seen v (omega arith))
