use Rattle.std.proofs.Common.{take, map}
use Rattle.jc_link.specs.inside.HeldPrefixes.{IsHeldOf}
use Rattle.jc_link.proofs.outside.Outside.new.Given as goal

abbrev pub invariant-loop-prefix : goal.invariant-loop-prefix
invariant-loop-prefix l = IsHeldOf l.outside (map (λ p. p.now) (take l.prefix-index l.prefixes))
