use Rattle.jc_edits.proofs.placing.EditsDiffer.{edits_differ}
use Rattle.jc_edits.proofs.laws.edits_differ.Goals as goal

pub returns : goal.returns
returns c = edits_differ
