use Rattle.std.proofs.Common.{rules}
use Rattle.jc_code.proofs.rules.constants.is_bad_special.Goals as goal

pub returns-after-eq : goal.returns-after-eq
returns-after-eq c = search rules
