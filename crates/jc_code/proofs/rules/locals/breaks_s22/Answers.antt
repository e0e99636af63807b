use Rattle.std.proofs.Common.{rules}
use Rattle.jc_code.proofs.rules.locals.breaks_s22.Goals as goal

pub returns-in-Some : goal.returns-in-Some
returns-in-Some c = search rules
