use Rattle.std.proofs.Common.{rules}
use Rattle.jc_code.proofs.scope.Scope.is_target.Goals as goal

pub returns-then-target-ge0 : goal.returns-then-target-ge0
returns-then-target-ge0 c = search rules
