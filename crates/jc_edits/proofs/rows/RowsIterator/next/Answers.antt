use Rattle.std.proofs.Common.{rules}
use Rattle.jc_edits.proofs.rows.RowsIterator.next.Goals as goal

pub returns-in_err-path-clause-steps : goal.returns-in_err-path-clause-steps
returns-in_err-path-clause-steps c = search rules

pub returns-clause-steps : goal.returns-clause-steps
returns-clause-steps c = search rules
