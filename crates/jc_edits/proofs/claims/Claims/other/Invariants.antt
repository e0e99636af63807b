use Rattle.std.proofs.Common.{◌≡◌}
use Rattle.jc_edits.proofs.holding.NextClaim.{first_other}
use Rattle.jc_edits.proofs.claims.Claims.other.Given as goal

abbrev pub invariant-loop-other : goal.invariant-loop-other
invariant-loop-other l = first_other l.path l.other-iterator ≡ first_other l.path l.initial.other-iterator
