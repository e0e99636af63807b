use Rattle.jc_edits.proofs.placing.EditsDiffer.{touched_are_taken}
use Rattle.jc_edits.proofs.laws.touched_are_taken.Goals as goal

pub returns : goal.returns
returns c = touched_are_taken
