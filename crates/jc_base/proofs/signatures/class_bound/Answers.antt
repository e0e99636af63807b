use Rattle.std.proofs.Common.{[], ◌∷◌, Some, sym, ◌∙◌}
use Rattle.std.proofs.lemmas.Bool.{false≢true}
use Rattle.jc_base.specs.Signatures.{Mark, Maybe, Many, ReferenceType, Param, Bound}
use Rattle.jc_base.specs.declared.signatures.Owed.TheVariants as entry
use Rattle.jc_base.proofs.grammar.Steps.{byte_gives, class_bound_ends, class_bound_absent, class_bound_present}
use Rattle.jc_base.proofs.grammar.Stack.{nothing_left}
use Rattle.jc_base.proofs.signatures.class_bound.Goals as goal

pub returns-in_err-first : goal.returns-in_err-first
returns-in_err-first c = rw c.from_residual.ensures (nothing_left entry.ClassBound c.args.text.now c.in_err-first.ensures.cases)

pub returns-then-first-eq62 : goal.returns-then-first-eq62
returns-then-first-eq62 c = byte_gives (Maybe ReferenceType ∷ Many Bound ∷ Many Param ∷ Mark 62 ∷ []) c.args.text.now c.in_ok-first.first.now c.in_ok-first.rest.now (Some _) c.in_ok-first.ensures.cases.0 (class_bound_ends c.in_ok-first.first.now c.if-first-eq62.true)

pub returns-then-ends_at_colon : goal.returns-then-ends_at_colon
returns-then-ends_at_colon c = class_bound_absent c.args.text.now c.in_ok-first.first.now c.in_ok-first.rest.now c.bounds.result (c.ends_at_colon.ensures.0 c.if-ends_at_colon.true) c.in_ok-first.ensures.cases.0 c.bounds.ensures

pub returns-else-ends_at_colon : goal.returns-else-ends_at_colon
returns-else-ends_at_colon c =
    c.with_rest.ensures (Maybe ReferenceType ∷ Many Bound ∷ Many Param ∷ Mark 62 ∷ []) c.args.text.now
    (class_bound_present c.args.text.now c.in_ok-first.first.now c.in_ok-first.rest.now c.followed.result c.in_ok-first.ensures.cases.0 c.if-first-eq62.false (λ at. false≢true (sym c.if-ends_at_colon.false ∙ c.ends_at_colon.ensures.1 at)) (c.followed.ensures (ReferenceType ∷ []) c.in_ok-first.first.now c.reference.ensures))
