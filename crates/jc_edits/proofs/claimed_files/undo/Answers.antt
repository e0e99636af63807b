use Rattle.std.proofs.Common.{rules}
use Rattle.jc_edits.proofs.claimed_files.undo.Goals as goal

pub returns-clause-files : goal.returns-clause-files
returns-clause-files c = search rules
