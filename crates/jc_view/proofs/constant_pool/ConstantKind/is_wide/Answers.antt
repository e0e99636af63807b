use Rattle.std.proofs.Common.{rules}
use Rattle.jc_view.proofs.constant_pool.ConstantKind.is_wide.Goals as goal

pub returns-in_default : goal.returns-in_default
returns-in_default c = search rules
