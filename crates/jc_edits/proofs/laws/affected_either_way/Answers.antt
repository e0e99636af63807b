use Rattle.jc_edits.proofs.placing.EditsDiffer.{affected_either_way}
use Rattle.jc_edits.proofs.laws.affected_either_way.Goals as goal

pub returns : goal.returns
returns c = affected_either_way
