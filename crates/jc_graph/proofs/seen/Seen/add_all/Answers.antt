use Rattle.std.proofs.Common.{take, sym, subst}
use Rattle.std.proofs.lemmas.List.{take_more}
use Rattle.jc_graph.specs.Seen.{SeesMore}
use Rattle.jc_graph.proofs.marked.SeenLemmas.{sees_more}
use Rattle.jc_graph.proofs.seen.Seen.add_all.Goals as goal

pub loop-node-preserved : goal.loop-node-preserved
loop-node-preserved c =
    let f = c.args.self.now.flags in
    let l = c.args.self.now.list in
    let i = c.loop-node.node-index in
    let more = sees_more f l c.loop-node.self.flags c.loop-node.self.list c.add_once.new.self.flags c.add_once.new.self.list (take i c.args.nodes.now) _ c.loop-node.invariant c.in_ok-add_once.ensures in
    subst (λ z. SeesMore f l c.add_once.new.self.flags c.add_once.new.self.list z) (sym (take_more c.args.nodes.now i 0 c.loop-node-test.true)) more
