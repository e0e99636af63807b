use Rattle.std.proofs.Common.{◌-◌}
use Rattle.jc_classes.specs.Lent.{key_lent}
use Rattle.jc_classes.specs.inside.Ordered.{IsNarrowed}
use Rattle.jc_classes.specs.inside.OrderedMembers.{shown}
use Rattle.jc_classes.proofs.member_lookup.OrderedMembers.place.Given as goal

abbrev pub invariant-loop-low : goal.invariant-loop-low
invariant-loop-low l = IsNarrowed (shown l.self) l.self.order.now (key_lent l.key) l.low l.high

abbrev pub decreases-loop-low : goal.decreases-loop-low
decreases-loop-low l = l.high - l.low
