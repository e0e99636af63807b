use Rattle.std.proofs.Common.{rules}
use Rattle.jc_numbered.proofs.access.is_open.Goals as goal

pub returns-then-has : goal.returns-then-has
returns-then-has c = search rules

pub returns-in-Class : goal.returns-in-Class
returns-in-Class c = search rules
