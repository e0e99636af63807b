use Rattle.std.proofs.Common.{◌≤◌, ◌∙◌, arith, length}
use Rattle.std.proofs.lemmas.List.{take_all}
use Rattle.jc_classes.proofs.members.Ranking.{texts_sorted}
use Rattle.jc_classes.proofs.member_order.sort_texts.Goals as goal

pub returns : goal.returns
returns c =
    let texts = c.args.texts.now in
    let end : length texts ≤ c.loop-number.number = omega (arith, c.loop-number-test.false, c.loop-number.auto.number-end, c.len-number-end.ensures) in
    let all = c.loop-number.invariant ∙ take_all c.loop-number.number texts end in
    texts_sorted texts c.loop-number.sorted.items c.sort_unstable.new.self.items all c.sort_unstable.ensures.permutation c.sort_unstable.ensures.sorted
