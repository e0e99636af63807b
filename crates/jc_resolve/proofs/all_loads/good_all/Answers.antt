use Rattle.std.proofs.Common.{arith}
use Rattle.std.proofs.lemmas.Grind.{common_steps}
use Rattle.jc_resolve.proofs.all_loads.good_all.Goals as goal

pub loop-load-init : goal.loop-load-init
loop-load-init c = grind (arith, common_steps)

pub loop-load-preserved : goal.loop-load-preserved
loop-load-preserved c = grind (arith, common_steps)

pub returns : goal.returns
returns c = grind (arith, common_steps)
