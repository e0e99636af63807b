use Rattle.jc_base.proofs.types.FieldsInFront.{one_field, one_method}
use Rattle.jc_base.proofs.descriptors.descriptors_are_determined.Goals as goal

pub returns : goal.returns
returns c = record { field = one_field; method = one_method }
