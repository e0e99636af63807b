use Rattle.std.proofs.Common.{rules}
use Rattle.jc_numbered.proofs.overriding.overridable.Goals as goal

pub returns-then-has-2 : goal.returns-then-has-2
returns-then-has-2 c = search rules

pub returns-else-has-2 : goal.returns-else-has-2
returns-else-has-2 c = search rules
