use Rattle.std.proofs.Common.{sym, subst}
use Rattle.jc_edits.specs.inside.Claims.{AreClaims}
use Rattle.jc_edits.proofs.holding.ClaimsStay.{claims_unplaced}
use Rattle.jc_edits.proofs.claimed_files.give_up.Goals as goal

pub returns-clause-claims : goal.returns-clause-claims
returns-clause-claims c =
    let held = c.args.held.now in
    subst (AreClaims held.claims) (sym c.remove.ensures.removed) (claims_unplaced held.claims held.files c.args.path.now c.requires.empty c.requires.claims)
