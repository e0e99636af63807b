use Rattle.jc_base.proofs.types.DescriptorsAreTexts.{field_spelled, method_spelled}
use Rattle.jc_base.proofs.descriptors.descriptors_are_well_spelled.Goals as goal

pub returns : goal.returns
returns c = record { field = field_spelled; method = method_spelled }
