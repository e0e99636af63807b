use Rattle.std.proofs.Common.{◌≡◌, take}
use Rattle.jc_classes.specs.inside.Ranks.{texts_lent}
use Rattle.jc_classes.proofs.member_order.sort_texts.Given as goal

abbrev pub invariant-loop-number : goal.invariant-loop-number
invariant-loop-number l = texts_lent l.sorted.items ≡ take l.number l.texts
