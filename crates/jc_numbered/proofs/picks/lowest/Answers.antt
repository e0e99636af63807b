use Rattle.std.proofs.Common.{◌+◌, ap, sym, subst, ◌∙◌}
use Rattle.std.proofs.lemmas.List.{get_or_default}
use Rattle.jc_numbered.specs.inside.Shown.{indexed_of}
use Rattle.jc_numbered.specs.inside.Picks.{LowestSoFar, lesser}
use Rattle.jc_numbered.proofs.lookups.PickLemmas.{lowest_more, lowest_end}
use Rattle.jc_numbered.proofs.picks.lowest.Goals as goal

pub loop-node-preserved : goal.loop-node-preserved
loop-node-preserved c =
    let x = indexed_of c.args.classes.now in
    let i = c.loop-node.node-index in
    subst (λ v. LowestSoFar x c.args.nodes.now v (i + 1)) (sym (c.lesser-best.ensures ∙ ap (lesser x c.loop-node.best) (get_or_default c.args.nodes.now i _ 0 c.loop-node-test.true)))
    (lowest_more x c.args.nodes.now c.loop-node.best i c.loop-node-test.true c.loop-node.invariant)

pub returns : goal.returns
returns c = lowest_end (indexed_of c.args.classes.now) c.args.nodes.now c.loop-node.best c.loop-node.node-index c.loop-node-test.false c.loop-node.invariant
