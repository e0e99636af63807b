use Rattle.std.proofs.Common.{length, ap, subst, ◌∙◌, arith}
use Rattle.std.proofs.lemmas.List.{get_or_default}
use Rattle.jc_graph.specs.Seen.{SeesMore}
use Rattle.jc_graph.specs.Graph.{successors_of}
use Rattle.jc_graph.proofs.marked.Climbs.{rooted_more, climbing_more, climbing_end, are_nodes}
use Rattle.jc_graph.proofs.above.mark_above.Goals as goal

pub add_all-requires : goal.add_all-requires
add_all-requires c = are_nodes (length c.args.graph.now) (successors_of c.args.graph.now) c.successors.result.now _ (length c.loop-start.seen.flags) c.requires.nodes c.successors.ensures c.loop-start.invariant.size

pub loop-start-preserved : goal.loop-start-preserved
loop-start-preserved c =
    let next = successors_of c.args.graph.now in
    let i = c.loop-start.start-index in
    let e = c.successors.ensures in
    rooted_more (length c.args.graph.now) next c.args.starts.now c.loop-start.seen.flags c.loop-start.seen.list c.add_all.new.self.flags c.add_all.new.self.list i c.loop-start-test.true c.loop-start.invariant
    (subst (λ r. SeesMore c.loop-start.seen.flags c.loop-start.seen.list c.add_all.new.self.flags c.add_all.new.self.list r) (e ∙ ap next (get_or_default c.args.starts.now i _ 0 c.loop-start-test.true)) c.in_ok-add_all.ensures)

pub add_all-requires-in-loop-at : goal.add_all-requires-in-loop-at
add_all-requires-in-loop-at c = are_nodes (length c.args.graph.now) (successors_of c.args.graph.now) c.successors-in-loop-at.result.now _ (length c.loop-at.seen.flags) c.requires.nodes c.successors-in-loop-at.ensures c.loop-at.invariant.climbing.rooted.size

pub loop-at-preserved : goal.loop-at-preserved
loop-at-preserved c =
    let next = successors_of c.args.graph.now in
    let g = subst (λ r. SeesMore c.loop-at.seen.flags c.loop-at.seen.list c.add_all-in-loop-at.new.self.flags c.add_all-in-loop-at.new.self.list r) (c.successors-in-loop-at.ensures ∙ ap next c.node-node.ensures) c.in_ok-add_all-2.ensures in
    let longer = g.longer in
    record {
      climbing = climbing_more (length c.args.graph.now) next c.args.starts.now c.loop-at.seen.flags c.loop-at.seen.list c.add_all-in-loop-at.new.self.flags c.add_all-in-loop-at.new.self.list c.loop-at.at (omega (arith, c.len.ensures, c.loop-at-test.true)) c.loop-at.invariant.climbing g;
      within = omega (arith, longer, c.len.ensures, c.loop-at-test.true);
    }

pub returns : goal.returns
returns c = climbing_end (length c.args.graph.now) (successors_of c.args.graph.now) c.args.starts.now c.loop-at.seen.flags c.loop-at.seen.list c.loop-at.at (omega (arith, c.len.ensures, c.loop-at-test.false)) c.loop-at.invariant.climbing
