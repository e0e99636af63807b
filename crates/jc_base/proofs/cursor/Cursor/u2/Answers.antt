use Rattle.std.proofs.Common.{rules}
use Rattle.jc_base.proofs.cursor.Cursor.u2.Goals as goal

pub returns-clause-number : goal.returns-clause-number
returns-clause-number c = search rules
