use Rattle.std.proofs.Common.{◌≡◌, map, take}
use Rattle.jc_classes.specs.inside.Ranks.{number_of}
use Rattle.jc_classes.proofs.member_order.order_by_texts.Given as goal

abbrev pub invariant-loop-number : goal.invariant-loop-number
invariant-loop-number l = l.numbers.items ≡ map number_of (take l.number-index l.number-items)
