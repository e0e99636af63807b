use Rattle.std.proofs.Common.{arith}
use Rattle.std.proofs.lemmas.Grind.{common_steps}
use Rattle.jc_view.specs.Reading.{after_member}
use Rattle.jc_view.proofs.members.read_member.Goals as goal

pub returns : goal.returns
unfolding after_member
returns c = grind (arith, common_steps)
