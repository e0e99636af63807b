use Rattle.std.proofs.Common.{length, refl, sym, subst}
use Rattle.jc_numbered.specs.inside.Shown.{indexed_of}
use Rattle.jc_numbered.specs.inside.Chain.{ExtendsNode}
use Rattle.jc_numbered.specs.inside.Chain.ExtendsNode.{itself, through}
use Rattle.jc_numbered.proofs.lookups.Chain.{super_node, super_good, super_falls, extends_on}
use Rattle.jc_numbered.proofs.chain.extends.Goals as goal

pub loop-node-preserved : goal.loop-node-preserved
loop-node-preserved c =
    let x = indexed_of c.args.classes.now in
    let count = length c.args.classes.now.standing.now in
    let v = c.loop-node.node in
    let e = sym c.in-Some.ensures in
    record {
      within = super_node count x c.args.classes.now.graph v c.in-Some.above e;
      good = super_good count x c.args.classes.now.graph v c.in-Some.above c.loop-node.invariant.good e;
      up = λ h. c.loop-node.invariant.up (through e h);
      down = λ h. extends_on x v c.in-Some.above c.args.other c.loop-node-test.true e (c.loop-node.invariant.down h);
    }

pub loop-node-smaller : goal.loop-node-smaller
loop-node-smaller c = super_falls (length c.args.classes.now.standing.now) (indexed_of c.args.classes.now) c.args.classes.now.graph c.loop-node.node c.in-Some.above c.loop-node.invariant.good (sym c.in-Some.ensures)

pub returns : goal.returns
returns c = (λ e. c.loop-node.invariant.up (subst (λ z. ExtendsNode (indexed_of c.args.classes.now) c.loop-node.node z) c.loop-node-test.false itself), λ h. refl)
