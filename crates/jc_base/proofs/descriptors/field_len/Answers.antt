use Rattle.std.proofs.Common.{◌+◌, sym, ap, ◌∙◌, arith}
use Rattle.std.specs.Option.{option_map}
use Rattle.jc_base.specs.FieldsInFront.{field_len}
use Rattle.jc_base.proofs.types.FieldsInFront.{len_after_dims, length_after_dims}
use Rattle.jc_base.proofs.descriptors.field_len.Goals as goal

pub returns-in_err-len-clause-value : goal.returns-in_err-len-clause-value
returns-in_err-len-clause-value c =
    let d = c.split_dims-dims.result.0 in
    c.from_residual.ensures ∙ ap (option_map (λ n. d + n)) c.in_err-len.ensures.value
    ∙ sym (ap field_len c.split_dims-dims.ensures.text ∙ len_after_dims d c.split_dims-dims.result.1.now c.split_dims-dims.ensures.all)

pub returns-clause-value : goal.returns-clause-value
returns-clause-value c =
    let d = c.split_dims-dims.result.0 in
    ap (option_map (λ n. d + n)) c.in_ok-len.ensures.value
    ∙ sym (ap field_len c.split_dims-dims.ensures.text ∙ len_after_dims d c.split_dims-dims.result.1.now c.split_dims-dims.ensures.all)

pub returns-clause-within : goal.returns-clause-within
returns-clause-within c =
    let all = length_after_dims c.args.text.now c.split_dims-dims.result.0 c.split_dims-dims.result.1.now c.split_dims-dims.ensures.text in
    omega (arith, c.in_ok-len.ensures.within)
