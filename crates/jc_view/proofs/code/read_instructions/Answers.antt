use Rattle.std.proofs.Common.{arith}
use Rattle.std.proofs.lemmas.Grind.{common_steps}
use Rattle.jc_view.proofs.code.read_instructions.Goals as goal

pub returns-then-length-eq0 : goal.returns-then-length-eq0
returns-then-length-eq0 c = grind (arith, common_steps)

pub returns : goal.returns
returns c = grind (arith, common_steps)
