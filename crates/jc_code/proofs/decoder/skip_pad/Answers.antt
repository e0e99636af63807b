use Rattle.std.proofs.lemmas.Grind.{common_steps}
use Rattle.std.proofs.Common.{arith}
use Rattle.jc_code.proofs.decoder.skip_pad.Goals as goal

pub returns-in_err-take : goal.returns-in_err-take
returns-in_err-take c = grind (arith, common_steps)

pub returns : goal.returns
returns c = grind (arith, common_steps)
