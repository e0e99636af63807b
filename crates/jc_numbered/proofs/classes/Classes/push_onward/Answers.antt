use Rattle.std.proofs.lemmas.Grind.{common_steps}
use Rattle.std.proofs.Common.{arith}
use Rattle.jc_numbered.proofs.classes.Classes.push_onward.Goals as goal

pub returns : goal.returns
returns c = grind (arith, common_steps)
