use Rattle.std.proofs.Common.{arith}
use Rattle.std.proofs.lemmas.Grind.{common_steps}
use Rattle.jc_link.proofs.reached.Reached.push.Goals as goal

pub returns : goal.returns
returns c = record { direct = c.in_ok-direct.direct.items; numbered = c.in_ok-direct.ensures; stands_more = grind (arith, common_steps); supertypes_more = grind (arith, common_steps) }
