use Rattle.std.proofs.Common.{arith}
use Rattle.std.proofs.lemmas.Bool.Decides.{Decides-at}
use Rattle.jc_classes.specs.Lent.{member_lent}
use Rattle.jc_classes.specs.inside.FactsShown.{member_shown}
use Rattle.jc_classes.proofs.compared.Lists.{decides_of, differ_there, one_more}
use Rattle.jc_classes.proofs.compared.SameClasses.{decides_member}
use Rattle.jc_classes.proofs.same_facts.are_same_members.Goals as goal

pub returns-then-not-is_same_member : goal.returns-then-not-is_same_member
returns-then-not-is_same_member c =
    let test = decides_member (member_lent c.lend.result) (member_lent c.lend-in-loop-at.result) in
    let same = decides_of c.is_same_member.result c.lend.ensures c.lend-in-loop-at.ensures (Decides-at _ _ c.is_same_member.ensures test) in
    differ_there (member_shown c.args.texts.now) (member_shown c.args.other_texts.now) c.args.members.now c.args.others.now c.loop-at.at _ _
    (omega (arith, c.loop-at-test.true, c.loop-at.auto.at-end)) (omega (arith, c.loop-at-test.true, c.loop-at.auto.at-end, c.if-members-others.false)) c.is_same_member.result same c.if-not-is_same_member.true

pub loop-at-preserved : goal.loop-at-preserved
loop-at-preserved c =
    let test = decides_member (member_lent c.lend.result) (member_lent c.lend-in-loop-at.result) in
    let same = decides_of c.is_same_member.result c.lend.ensures c.lend-in-loop-at.ensures (Decides-at _ _ c.is_same_member.ensures test) in
    one_more (member_shown c.args.texts.now) (member_shown c.args.other_texts.now) c.args.members.now c.args.others.now c.loop-at.at _ _
    (omega (arith, c.loop-at-test.true, c.loop-at.auto.at-end)) (omega (arith, c.loop-at-test.true, c.loop-at.auto.at-end, c.if-members-others.false)) c.is_same_member.result same c.if-not-is_same_member.false
    c.loop-at.invariant
