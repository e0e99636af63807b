use Rattle.std.proofs.Common.{length}
use Rattle.jc_numbered.proofs.lookups.FinalSearchLemmas.{IsLeft}
use Rattle.jc_numbered.proofs.overriding.drop_left.Given as goal

abbrev pub invariant-loop-last : goal.invariant-loop-last
invariant-loop-last l = IsLeft l.chain l.fn.entries.items l.entries.items

abbrev pub decreases-loop-last : goal.decreases-loop-last
decreases-loop-last l = length l.entries.items
