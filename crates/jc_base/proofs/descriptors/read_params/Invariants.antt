use Rattle.std.proofs.Common.{length}
use Rattle.jc_base.proofs.types.ParametersInFront.{HasReadParams}
use Rattle.jc_base.proofs.descriptors.read_params.Given as goal

abbrev pub invariant-loop-param : goal.invariant-loop-param
invariant-loop-param l = HasReadParams l.text l.slots l.rest

abbrev pub decreases-loop-param : goal.decreases-loop-param
decreases-loop-param l = length l.rest
