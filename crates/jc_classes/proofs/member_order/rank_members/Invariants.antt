use Rattle.std.proofs.Common.{◌≡◌, ◌++◌, drop, slice_index}
use Rattle.jc_classes.specs.inside.Ranks.{placed_from}
use Rattle.jc_classes.proofs.member_order.rank_members.Given as goal

abbrev pub invariant-loop-number : goal.invariant-loop-number
invariant-loop-number l = l.ranked.items ++ placed_from (slice_index l.ranks) l.number (drop l.number l.members) ≡ placed_from (slice_index l.ranks) 0 l.members
