use Rattle.std.proofs.Common.{subst, sym}
use Rattle.jc_classes.specs.Numbers.{IsOnce}
use Rattle.jc_link.proofs.prefixes.Holding.{once_without}
use Rattle.jc_link.proofs.outside.Outside.minus.Goals as goal

pub invariant_of-result : goal.invariant_of-result
invariant_of-result c = subst IsOnce (sym c.in_ok-held.ensures.held) (once_without c.args.self.now c.args.prefix.now c.in_ok-held.ensures.once)
