use Rattle.std.proofs.Common.{◌≡◌, ◌+◌, ◌≤◌, ap, sym, ◌∙◌, subst, arith}
use Rattle.std.proofs.lemmas.Bool.{false≢true}
use Rattle.jc_base.specs.Descriptors.{slots_of}
use Rattle.jc_base.proofs.types.ParametersInFront.{HasReadParams, one_more_read, all_params_read, next_param}
use Rattle.jc_base.proofs.descriptors.read_params.Goals as goal

pub returns-in_err-read-clause-none : goal.returns-in_err-read-clause-none
returns-in_err-read-clause-none c =
    rw c.from_residual.ensures (λ params.
    let next = next_param c.args.text.now c.loop-param.slots c.loop-param.rest.now _ _ c.loop-param.invariant c.in-Some.ensures.found params in
    false≢true (c.in_err-read.ensures.some.1 next.0))

pub returns-in_err-slots-clause-none : goal.returns-in_err-slots-clause-none
returns-in_err-slots-clause-none c =
    rw c.from_residual-in_err-slots.ensures (λ params.
    let next = next_param c.args.text.now c.loop-param.slots c.loop-param.rest.now _ _ c.loop-param.invariant c.in-Some.ensures.found params in
    let slots : c.slots.result ≡ slots_of c.in-Some.param.now = c.slots.ensures ∙ ap slots_of (sym c.in_ok-read.ensures.tree.text) in
    let fits : c.loop-param.slots + slots_of c.in-Some.param.now ≤ 255 = next.1 in
    c.in_err-slots.ensures (omega arith))

pub loop-param-preserved : goal.loop-param-preserved
loop-param-preserved c =
    let sum = c.in_ok-slots.ensures in
    let slots : c.slots.result ≡ slots_of c.in-Some.param.now = c.slots.ensures ∙ ap slots_of (sym c.in_ok-read.ensures.tree.text) in
    subst (λ n. HasReadParams c.args.text.now n c.in-Some.after.now) (sym (sum.1 ∙ ap (λ n. c.loop-param.slots + n) slots))
    (one_more_read c.args.text.now c.loop-param.slots c.loop-param.rest.now _ _ c.loop-param.invariant c.in-Some.ensures.found (c.in_ok-read.field-0, c.in_ok-read.ensures.tree) (omega (arith, sum.0)))

pub returns-clause-found : goal.returns-clause-found
returns-clause-found c =
    all_params_read c.args.text.now c.loop-param.slots c.loop-param.rest.now c.loop-param.invariant c.in_default.ensures.none
