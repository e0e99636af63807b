use Rattle.std.proofs.Common.{rules}
use Rattle.jc_numbered.proofs.picks.is_pick.Goals as goal

pub returns-then-has : goal.returns-then-has
returns-then-has c = search rules

pub returns-in-Some : goal.returns-in-Some
returns-in-Some c = search rules
