use Rattle.std.proofs.Common.{◌≡◌, ◌++◌, drop, map}
use Rattle.jc_classes.specs.inside.FactsShown.{text_at}
use Rattle.jc_classes.specs.inside.Ranks.{named_lent, placed_from}
use Rattle.jc_classes.proofs.member_order.name_members.Given as goal

abbrev pub invariant-loop-number : goal.invariant-loop-number
invariant-loop-number l = map named_lent l.named.items ++ placed_from (text_at l.texts) l.number (drop l.number l.members) ≡ placed_from (text_at l.texts) 0 l.members
