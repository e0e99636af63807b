use Rattle.std.proofs.Common.{◌≡◌, drop}
use Rattle.jc_graph.specs.inside.Marks.{set_all}
use Rattle.jc_graph.proofs.marks.mark.Given as goal

abbrev pub invariant-loop-node : goal.invariant-loop-node
invariant-loop-node g l = set_all l.marks (drop l.node-index l.nodes) l.mark ≡ set_all l.fn.marks l.nodes l.mark
