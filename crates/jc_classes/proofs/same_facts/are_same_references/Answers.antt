use Rattle.std.proofs.Common.{arith}
use Rattle.jc_classes.specs.inside.FactsShown.{reference_shown}
use Rattle.jc_classes.proofs.compared.Lists.{decides_of, differ_there, one_more}
use Rattle.jc_classes.proofs.same_facts.are_same_references.Goals as goal

pub returns-then-not-is_same_reference : goal.returns-then-not-is_same_reference
returns-then-not-is_same_reference c =
    let same = decides_of c.is_same_reference.result c.lend.ensures c.lend-in-loop-at.ensures c.is_same_reference.ensures in
    differ_there (reference_shown c.args.texts.now) (reference_shown c.args.other_texts.now) c.args.references.now c.args.others.now c.loop-at.at _ _
    (omega (arith, c.loop-at-test.true, c.loop-at.auto.at-end)) (omega (arith, c.loop-at-test.true, c.loop-at.auto.at-end, c.if-references-others.false)) c.is_same_reference.result same c.if-not-is_same_reference.true

pub loop-at-preserved : goal.loop-at-preserved
loop-at-preserved c =
    let same = decides_of c.is_same_reference.result c.lend.ensures c.lend-in-loop-at.ensures c.is_same_reference.ensures in
    one_more (reference_shown c.args.texts.now) (reference_shown c.args.other_texts.now) c.args.references.now c.args.others.now c.loop-at.at _ _
    (omega (arith, c.loop-at-test.true, c.loop-at.auto.at-end)) (omega (arith, c.loop-at-test.true, c.loop-at.auto.at-end, c.if-references-others.false)) c.is_same_reference.result same c.if-not-is_same_reference.false
    c.loop-at.invariant
