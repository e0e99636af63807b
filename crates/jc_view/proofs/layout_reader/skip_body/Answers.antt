use Rattle.std.proofs.Common.{arith}
use Rattle.std.proofs.lemmas.Grind.{common_steps}
use Rattle.jc_view.proofs.layout_reader.skip_body.Goals as goal

pub returns-in_err-u2-in-Utf8 : goal.returns-in_err-u2-in-Utf8
returns-in_err-u2-in-Utf8 c = grind (arith, common_steps)

pub returns-in_err-take : goal.returns-in_err-take
returns-in_err-take c = grind (arith, common_steps)

pub returns : goal.returns
returns c = grind (arith, common_steps)
