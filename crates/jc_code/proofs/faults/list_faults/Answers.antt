use Rattle.std.proofs.Common.{◌∙◌, ap, subst}
use Rattle.jc_code.specs.CodeFaults.{scope_with}
use Rattle.jc_code.specs.inside.FirstPass.{IsFirstPass}
use Rattle.jc_code.proofs.faults.list_faults.Goals as goal

pub list_passed-requires : goal.list_passed-requires
list_passed-requires c =
    let k = c.args.code.now.code in
    let pass = c.in_ok-pass.pass in
    let bare = c.scope_with-bare.result in
    subst (λ s. IsFirstPass s k.code pass) (c.scope_with-bare.ensures ∙ ap (scope_with c.args.sizes.now k) c.none.ensures)
    (subst (λ code. IsFirstPass bare code pass) c.bytes.ensures.part c.in_ok-pass.ensures.found)
