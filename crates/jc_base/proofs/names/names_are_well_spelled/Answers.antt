use Rattle.jc_base.proofs.texts.Names.{class_name_spelled, method_name_spelled}
use Rattle.jc_base.proofs.names.names_are_well_spelled.Goals as goal

pub returns : goal.returns
returns c = record { class = class_name_spelled; method = method_name_spelled }
