use Rattle.std.proofs.Common.{arith}
use Rattle.std.proofs.lemmas.Grind.{common_steps}
use Rattle.jc_view.specs.Reading.{first_constant}
use Rattle.jc_view.proofs.layout_reader.skip_constant.Goals as goal

pub returns-in_default : goal.returns-in_default
unfolding first_constant
returns-in_default c = grind (arith, common_steps)

pub returns-in_default-of_tag : goal.returns-in_default-of_tag
unfolding first_constant
returns-in_default-of_tag c = grind (arith, common_steps)

pub returns-then-is_wide : goal.returns-then-is_wide
unfolding first_constant
returns-then-is_wide c = grind (arith, common_steps)

pub returns-in_err-ok_or : goal.returns-in_err-ok_or
unfolding first_constant
returns-in_err-ok_or c = grind (arith, common_steps)

pub returns : goal.returns
unfolding first_constant
returns c = grind (arith, common_steps)
