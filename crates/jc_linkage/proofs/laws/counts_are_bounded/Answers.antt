use Rattle.jc_linkage.proofs.changes.CountsBounded.{counts_are_bounded}
use Rattle.jc_linkage.proofs.laws.counts_are_bounded.Goals as goal

pub returns : goal.returns
returns c = counts_are_bounded
