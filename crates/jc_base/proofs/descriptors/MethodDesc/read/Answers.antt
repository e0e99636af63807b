use Rattle.std.proofs.Common.{[], ◌∷◌, Some, None, refl}
use Rattle.std.proofs.lemmas.Bool.{false≢true}
use Rattle.std.proofs.lemmas.Bool.Decides.{Decides-eqb}
use Rattle.std.proofs.lemmas.Slice.Eq.{strip_prefix_is}
use Rattle.jc_base.proofs.types.FieldsInFront.{method_split}
use Rattle.jc_base.proofs.types.ParametersInFront.{method_read, cut_params, no_params, no_close, no_result}
use Rattle.jc_base.specs.Descriptors.{MethodType, IsMethod}
use Rattle.jc_base.proofs.types.TestsDecide.{same_read, method_decides}
use Rattle.jc_base.proofs.descriptors.MethodDesc.read.Goals as goal

pub returns-in_err-slots-clause-some : goal.returns-in_err-slots-clause-some
returns-in_err-slots-clause-some c =
    let inner = c.in_ok-inner.inner in
    let at = strip_prefix_is Decides-eqb c.args.text.now (40 ∷ []) (Some inner) c.in_ok-inner.ensures.cases in
    rw c.from_residual-in_err-slots.ensures (λ e. absurd (false≢true e), λ method. absurd (no_params c.args.text.now inner.now at c.in_err-slots.ensures.none method))

pub returns-in_err-strip_prefix-clause-some : goal.returns-in_err-strip_prefix-clause-some
returns-in_err-strip_prefix-clause-some c =
    let inner = c.in_ok-inner.inner in
    let rest = c.in_ok-slots.rest in
    let at = strip_prefix_is Decides-eqb c.args.text.now (40 ∷ []) (Some inner) c.in_ok-inner.ensures.cases in
    rw c.from_residual-in_err-strip_prefix.ensures (
      λ e. absurd (false≢true e),
      λ method. absurd (no_close c.args.text.now inner.now rest.now c.in_ok-slots.slots at c.in_ok-slots.ensures.found (strip_prefix_is Decides-eqb rest.now (41 ∷ []) None c.in_err-strip_prefix.ensures.cases) method),
    )

pub returns-in_err-result-clause-some : goal.returns-in_err-result-clause-some
returns-in_err-result-clause-some c =
    let inner = c.in_ok-inner.inner in
    let rest = c.in_ok-slots.rest in
    let after = c.in_ok-strip_prefix.field-0 in
    let at = strip_prefix_is Decides-eqb c.args.text.now (40 ∷ []) (Some inner) c.in_ok-inner.ensures.cases in
    let close = strip_prefix_is Decides-eqb rest.now (41 ∷ []) (Some after) c.in_ok-strip_prefix.ensures.cases in
    rw c.from_residual-in_err-result.ensures (
      λ e. absurd (false≢true e),
      λ method. absurd (no_result c.args.text.now inner.now rest.now after.now c.in_ok-slots.slots at c.in_ok-slots.ensures.found close c.in_err-result.ensures.none method),
    )

pub invariant_of-result : goal.invariant_of-result
invariant_of-result c =
    let cut = cut_params c.in_ok-inner.inner.now c.in_ok-slots.rest.now c.in_ok-slots.slots c.in_ok-slots.ensures.found in
    (cut.0, c.in_ok-result.ensures.found.field, cut.1)

pub returns-clause-some : goal.returns-clause-some
returns-clause-some c =
    let inner = c.in_ok-inner.inner in
    let rest = c.in_ok-slots.rest in
    let after = c.in_ok-strip_prefix.field-0 in
    let at = strip_prefix_is Decides-eqb c.args.text.now (40 ∷ []) (Some inner) c.in_ok-inner.ensures.cases in
    let close = strip_prefix_is Decides-eqb rest.now (41 ∷ []) (Some after) c.in_ok-strip_prefix.ensures.cases in
    (λ _. (_, method_read c.args.text.now inner.now rest.now after.now c.in_ok-slots.slots _ at c.in_ok-slots.ensures.found close c.in_ok-result.ensures.found), λ _. refl)

pub returns-clause-tree : goal.returns-clause-tree
returns-clause-tree c =
    let inner = c.in_ok-inner.inner in
    let rest = c.in_ok-slots.rest in
    let after = c.in_ok-strip_prefix.field-0 in
    let at = strip_prefix_is Decides-eqb c.args.text.now (40 ∷ []) (Some inner) c.in_ok-inner.ensures.cases in
    let close = strip_prefix_is Decides-eqb rest.now (41 ∷ []) (Some after) c.in_ok-strip_prefix.ensures.cases in
    method_read c.args.text.now inner.now rest.now after.now c.in_ok-slots.slots _ at c.in_ok-slots.ensures.found close c.in_ok-result.ensures.found

pub returns-in_err-inner-clause-computed : goal.returns-in_err-inner-clause-computed
returns-in_err-inner-clause-computed c =
    let none : (type : MethodType) → IsMethod c.args.text.now type → ⊥ = λ type method.
    strip_prefix_is Decides-eqb c.args.text.now (40 ∷ []) None c.in_err-inner.ensures.cases _ (method_split c.args.text.now type method) in
    same_read (IsMethod c.args.text.now) _ _ (rw c.from_residual.ensures (λ e. absurd (false≢true e), λ found. absurd (none found.0 found.1))) (rw c.from_residual.ensures tt) (method_decides c.args.text.now)

pub returns-in_err-slots-clause-computed : goal.returns-in_err-slots-clause-computed
returns-in_err-slots-clause-computed c = same_read (IsMethod c.args.text.now) _ _ (returns-in_err-slots-clause-some c) (rw c.from_residual-in_err-slots.ensures tt) (method_decides c.args.text.now)

pub returns-in_err-strip_prefix-clause-computed : goal.returns-in_err-strip_prefix-clause-computed
returns-in_err-strip_prefix-clause-computed c = same_read (IsMethod c.args.text.now) _ _ (returns-in_err-strip_prefix-clause-some c) (rw c.from_residual-in_err-strip_prefix.ensures tt) (method_decides c.args.text.now)

pub returns-in_err-result-clause-computed : goal.returns-in_err-result-clause-computed
returns-in_err-result-clause-computed c = same_read (IsMethod c.args.text.now) _ _ (returns-in_err-result-clause-some c) (rw c.from_residual-in_err-result.ensures tt) (method_decides c.args.text.now)

pub returns-clause-computed : goal.returns-clause-computed
returns-clause-computed c = same_read (IsMethod c.args.text.now) _ _ (returns-clause-some c) (returns-clause-tree c) (method_decides c.args.text.now)
