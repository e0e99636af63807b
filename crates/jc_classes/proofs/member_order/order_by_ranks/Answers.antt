use Rattle.std.proofs.Common.{◌∙◌, ap, map, subst, sym}
use Rattle.std.proofs.lemmas.Result.{IfOk-weaker}
use Rattle.std.specs.List.Sorted.{IsPermutation}
use Rattle.jc_classes.specs.MemberOrder.{IsOrder}
use Rattle.jc_classes.specs.inside.FactsShown.{member_shown}
use Rattle.jc_classes.specs.inside.Ranks.{number_of}
use Rattle.jc_classes.proofs.members.Sorting.{by_ranks}
use Rattle.jc_classes.proofs.member_order.order_by_ranks.Goals as goal

pub returns : goal.returns
returns c =
    let members = c.args.members.now in
    let sorted = c.sort_unstable.new.self.items in
    let moved = subst (λ old. IsPermutation old sorted) c.in_ok-ranked.ensures c.sort_unstable.ensures.permutation in
    IfOk-weaker c.numbers.result _ _
    (λ order e texts ranks. subst (IsOrder (map (member_shown texts) members)) (sym (e ∙ ap (map number_of) c.as_slice.ensures.value))
    (by_ranks texts c.args.ranks.now ranks members c.requires.below sorted moved c.sort_unstable.ensures.sorted))
    c.numbers.ensures
