use Rattle.std.proofs.Common.{sym, subst}
use Rattle.jc_edits.specs.inside.Claims.{AreClaims}
use Rattle.jc_edits.proofs.holding.ClaimsStay.{no_claims}
use Rattle.jc_edits.proofs.claimed_files.ClaimedFiles.new.Goals as goal

pub returns-clause-claims : goal.returns-clause-claims
returns-clause-claims c = subst (AreClaims c.new-2.result) (sym c.new.ensures) (no_claims c.new-2.result c.new-2.ensures)
