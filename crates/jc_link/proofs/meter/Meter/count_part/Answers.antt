use Rattle.std.proofs.Common.{rules}
use Rattle.jc_link.proofs.meter.Meter.count_part.Goals as goal

pub returns-clause-made : goal.returns-clause-made
returns-clause-made c = search rules
