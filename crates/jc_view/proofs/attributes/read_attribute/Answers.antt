use Rattle.std.proofs.Common.{arith}
use Rattle.std.proofs.lemmas.Grind.{common_steps}
use Rattle.jc_view.specs.Reading.{after_attribute}
use Rattle.jc_view.proofs.attributes.read_attribute.Goals as goal

pub returns : goal.returns
unfolding after_attribute
returns c = grind (arith, common_steps)
