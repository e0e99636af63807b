use Rattle.std.proofs.Common.{arith}
use Rattle.std.proofs.lemmas.Grind.{common_steps}
use Rattle.jc_view.specs.inside.ConstantRead.{constant_read}
use Rattle.jc_view.proofs.constant_reader.constant_at.Goals as goal

pub returns : goal.returns
unfolding constant_read
returns c = grind (arith, common_steps)
