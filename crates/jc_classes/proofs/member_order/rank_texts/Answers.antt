use Rattle.std.proofs.Common.{◌≡◌, ◌∙◌, arith, length}
use Rattle.jc_classes.specs.inside.Ranks.{texts_lent}
use Rattle.jc_classes.proofs.members.Ranking.{texts_ranked}
use Rattle.jc_classes.proofs.member_order.rank_texts.Goals as goal

pub returns : goal.returns
returns c =
    let texts = c.args.texts.now in
    let end : c.loop-number.number ≡ length texts = omega (arith, c.loop-number-test.false, c.loop-number.auto.number-end, c.len-number-end.ensures) in
    texts_ranked texts (texts_lent c.in_ok-sorted.sorted.items) c.loop-number.ranks.items c.in_ok-sorted.ensures (c.loop-number.invariant.size ∙ end) (λ at l. c.loop-number.invariant.ranks at (omega (arith, l, end)))
