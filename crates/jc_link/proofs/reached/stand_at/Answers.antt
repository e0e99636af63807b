use Rattle.std.proofs.Common.{rules}
use Rattle.jc_link.proofs.reached.stand_at.Goals as goal

pub returns-in-Some-clause-asks : goal.returns-in-Some-clause-asks
returns-in-Some-clause-asks c = search rules

pub returns-then-covers-clause-asks : goal.returns-then-covers-clause-asks
returns-then-covers-clause-asks c = search rules

pub returns-else-covers-clause-asks : goal.returns-else-covers-clause-asks
returns-else-covers-clause-asks c = search rules
