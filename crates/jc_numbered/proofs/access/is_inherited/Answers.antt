use Rattle.std.proofs.Common.{rules}
use Rattle.jc_numbered.proofs.access.is_inherited.Goals as goal

pub returns-then-has : goal.returns-then-has
returns-then-has c = search rules
