use Rattle.jc_file.proofs.violations.Attributes.{of_kind_decided}
use Rattle.jc_file.proofs.fault_laws.attributes_are_recognised.Goals as goal

pub returns : goal.returns
returns c = of_kind_decided
