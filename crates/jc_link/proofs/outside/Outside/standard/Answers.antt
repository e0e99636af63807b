use Rattle.jc_link.proofs.prefixes.Holding.{standard_once}
use Rattle.jc_link.proofs.outside.Outside.standard.Goals as goal

pub invariant_of-result : goal.invariant_of-result
invariant_of-result c = standard_once
