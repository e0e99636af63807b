use Rattle.std.proofs.Common.{sym, subst}
use Rattle.jc_edits.specs.inside.Claims.{AreClaims}
use Rattle.jc_edits.proofs.holding.ClaimsStay.{claims_removed, claims_absent}
use Rattle.jc_edits.proofs.claimed_files.take_out.Goals as goal

pub returns-in-Some-clause-claims : goal.returns-in-Some-clause-claims
returns-in-Some-clause-claims c =
    let held = c.args.held.now in
    subst (AreClaims c.withdraw.new.claims) (sym c.remove.ensures.removed) (claims_removed held.claims c.withdraw.new.claims held.files c.args.path.now c.in-Some.file c.requires (sym c.in-Some.ensures.before) c.withdraw.ensures)

pub returns-in_default-clause-claims : goal.returns-in_default-clause-claims
returns-in_default-clause-claims c =
    let held = c.args.held.now in
    subst (AreClaims held.claims) (sym c.remove.ensures.removed) (claims_absent held.claims held.files c.args.path.now c.requires (sym c.in_default.ensures.before))
