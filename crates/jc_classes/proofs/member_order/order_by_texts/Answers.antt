use Rattle.std.proofs.Common.{◌≤◌, ◌∙◌, ap, length, map, rules, subst, sym}
use Rattle.std.proofs.lemmas.List.{take_all}
use Rattle.jc_classes.specs.MemberOrder.{IsOrder}
use Rattle.jc_classes.specs.inside.FactsShown.{member_shown}
use Rattle.jc_classes.specs.inside.Ranks.{number_of}
use Rattle.jc_classes.proofs.members.Sorting.{by_texts}
use Rattle.jc_classes.proofs.member_order.order_by_texts.Goals as goal

pub returns : goal.returns
returns c =
    let texts = c.args.texts.now in
    let members = c.args.members.now in
    let sorted = c.sort_unstable.new.self.items in
    let lent = c.deref-number-items.result.now in
    let end : length lent ≤ c.loop-number.number-index = search rules in
    subst (IsOrder (map (member_shown texts) members)) (sym (c.loop-number.invariant ∙ ap (map number_of) (take_all c.loop-number.number-index lent end ∙ c.deref-number-items.ensures.value)))
    (by_texts texts members c.requires.below c.in_ok-named.named.items sorted c.in_ok-named.ensures c.sort_unstable.ensures.permutation c.sort_unstable.ensures.sorted)
