use Rattle.std.proofs.Common.{sym, ap, subst, ◌∙◌}
use Rattle.jc_edits.specs.inside.Claims.{NoneEmpty, has_claim}
use Rattle.jc_edits.proofs.holding.ClaimsOfPaths.{has_claim-empty, none_empty-empty}
use Rattle.jc_edits.proofs.claims.Claims.new.Goals as goal

pub returns : goal.returns
returns c = λ n p. ap (λ m. has_claim m n p) c.new.ensures ∙ has_claim-empty n p

pub invariant_of-result : goal.invariant_of-result
invariant_of-result c = subst NoneEmpty (sym c.new.ensures) none_empty-empty
