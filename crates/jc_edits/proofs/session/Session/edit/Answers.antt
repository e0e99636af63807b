use Rattle.std.proofs.Common.{rules}
use Rattle.jc_edits.proofs.session.Session.edit.Goals as goal

pub returns-in-Remove-clause-made : goal.returns-in-Remove-clause-made
returns-in-Remove-clause-made c = search rules

pub returns-in-Remove-clause-asks : goal.returns-in-Remove-clause-asks
returns-in-Remove-clause-asks c = search rules
