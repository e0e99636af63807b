use Rattle.std.proofs.Common.{rules}
use Rattle.jc_link.proofs.closure.Closure.holds.Goals as goal

pub returns-clause-held : goal.returns-clause-held
returns-clause-held c = search rules

pub returns-clause-reach : goal.returns-clause-reach
returns-clause-reach c = search rules
