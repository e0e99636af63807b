use Rattle.jc_base.proofs.types.TestsDecide.{field_decides, method_decides}
use Rattle.jc_base.proofs.descriptors.descriptors_are_decided.Goals as goal

pub returns : goal.returns
returns c = record { field = field_decides; method = method_decides }
