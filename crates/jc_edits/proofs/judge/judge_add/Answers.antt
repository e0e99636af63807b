use Rattle.std.proofs.lemmas.Grind.{common_steps}
use Rattle.std.proofs.Common.{arith}
use Rattle.jc_edits.proofs.judge.judge_add.Goals as goal

pub returns : goal.returns
returns c = grind (arith, common_steps)
