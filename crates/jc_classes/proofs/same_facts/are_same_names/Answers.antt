use Rattle.std.proofs.Common.{arith}
use Rattle.std.proofs.lemmas.Bool.Decides.{Decides-at}
use Rattle.jc_classes.specs.inside.FactsShown.{text_at}
use Rattle.jc_classes.proofs.compared.Lists.{decides_of, differ_there, one_more}
use Rattle.jc_classes.proofs.worlds.NameTests.{decides_same}
use Rattle.jc_classes.proofs.same_facts.are_same_names.Goals as goal

pub returns-then-not-same : goal.returns-then-not-same
returns-then-not-same c =
    let same = decides_of c.same.result c.text-name.ensures c.text.ensures (Decides-at _ _ c.same.ensures (decides_same c.text-name.result.now c.text.result.now)) in
    differ_there (text_at c.args.texts.now) (text_at c.args.other_texts.now) c.args.names.now c.args.others.now c.loop-at.at 0 0
    (omega (arith, c.loop-at-test.true, c.loop-at.auto.at-end)) (omega (arith, c.loop-at-test.true, c.loop-at.auto.at-end, c.if-names-others.false)) c.same.result same c.if-not-same.true

pub loop-at-preserved : goal.loop-at-preserved
loop-at-preserved c =
    let same = decides_of c.same.result c.text-name.ensures c.text.ensures (Decides-at _ _ c.same.ensures (decides_same c.text-name.result.now c.text.result.now)) in
    one_more (text_at c.args.texts.now) (text_at c.args.other_texts.now) c.args.names.now c.args.others.now c.loop-at.at 0 0
    (omega (arith, c.loop-at-test.true, c.loop-at.auto.at-end)) (omega (arith, c.loop-at-test.true, c.loop-at.auto.at-end, c.if-names-others.false)) c.same.result same c.if-not-same.false
    c.loop-at.invariant
