use Rattle.std.proofs.Common.{rules}
use Rattle.jc_base.proofs.cursor.Cursor.take.Goals as goal

pub returns-then-count-self-clause-some : goal.returns-then-count-self-clause-some
returns-then-count-self-clause-some c = search rules
