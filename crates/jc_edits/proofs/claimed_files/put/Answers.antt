use Rattle.std.proofs.Common.{sym, subst}
use Rattle.std.specs.FinMap as map
use Rattle.jc_edits.specs.inside.Claims.{AreClaims}
use Rattle.jc_edits.proofs.holding.ClaimsStay.{claims_put}
use Rattle.jc_edits.proofs.claimed_files.put.Goals as goal

pub returns-clause-claims : goal.returns-clause-claims
returns-clause-claims c =
    let claims = c.withdraw_stale.new.claims in
    let files = c.args.held.now.files in
    let path = c.args.path.now in
    subst (λ file. AreClaims claims (map.insert files path file)) (sym c.replace.ensures.after)
    (claims_put c.args.held.now.claims claims files path c.in-Some.place.now c.args.file c.requires.claims (sym c.in-Some.ensures.value) c.withdraw_stale.ensures)
