use Rattle.std.proofs.lemmas.Grind.{common_steps}
use Rattle.std.proofs.Common.{arith}
use Rattle.jc_numbered.proofs.loads.judge_each.Goals as goal

pub loop-other-preserved : goal.loop-other-preserved
loop-other-preserved c = grind (arith, common_steps)
