use Rattle.std.proofs.lemmas.Grind.{common_steps}
use Rattle.std.proofs.Common.{arith}
use Rattle.jc_numbered.proofs.loads.judge.Goals as goal

pub returns-then-is_wrong : goal.returns-then-is_wrong
returns-then-is_wrong c = grind (arith, common_steps)

pub returns-else-is_wrong : goal.returns-else-is_wrong
returns-else-is_wrong c = grind (arith, common_steps)

pub returns-in-Outside : goal.returns-in-Outside
returns-in-Outside c = grind (arith, common_steps)

pub returns-in-Fails : goal.returns-in-Fails
returns-in-Fails c = grind (arith, common_steps)
