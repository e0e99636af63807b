use Rattle.std.proofs.Common.{rules}
use Rattle.jc_graph.proofs.walk.is_ring.Goals as goal

pub returns-in_default : goal.returns-in_default
returns-in_default c = search rules

pub returns-in_default-2 : goal.returns-in_default-2
returns-in_default-2 c = search rules
