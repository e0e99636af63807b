use Rattle.std.proofs.Common.{length}
use Rattle.jc_base.proofs.texts.WellSpelledFronts.{HasRead}
use Rattle.jc_base.proofs.modified_utf8.spelled_units.Given as goal

abbrev pub invariant-loop-unit : goal.invariant-loop-unit
invariant-loop-unit l = HasRead l.units.items l.text l.rest

abbrev pub decreases-loop-unit : goal.decreases-loop-unit
decreases-loop-unit l = length l.rest
