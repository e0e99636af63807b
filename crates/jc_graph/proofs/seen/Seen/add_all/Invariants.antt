use Rattle.std.proofs.Common.{take}
use Rattle.jc_graph.specs.Seen.{SeesMore}
use Rattle.jc_graph.proofs.seen.Seen.add_all.Given as goal

abbrev pub invariant-loop-node : goal.invariant-loop-node
invariant-loop-node l = SeesMore l.fn.self.flags l.fn.self.list l.self.flags l.self.list (take l.node-index l.nodes)
