use Rattle.std.proofs.Common.{◌&&◌, ◌∙◌, ap, not, refl}
use Rattle.std.proofs.lemmas.Result.{on_ok_weaker}
use Rattle.jc_view.specs.Lookups.{passes}
use Rattle.jc_code.specs.declared.code_fault.CodeRule.TheVariants as rules
use Rattle.jc_code.specs.CodeFaults.{insn_breaks}
use Rattle.jc_code.specs.CodeRules.{is_special, referred_name}
use Rattle.jc_code.proofs.appended.RuleFaults.{four}
use Rattle.jc_code.proofs.insn_faults.add_invoke_interface.Goals as goal

pub returns : goal.returns
unfolding insn_breaks
returns c =
    let right = c.is_interface_method-is_right.ensures in
    on_ok_weaker c.add_if-4.result
    (λ e. four c.args.place rules.S11 rules.S12 rules.S13 rules.S16 _ _ _ _ _ _ _ _ _ _ _ _ _
    (ap not right) c.is_other_count.ensures refl (c.is_right_special.ensures ∙ ap (λ b. b && passes is_special (referred_name c.args.scope.now.class c.args.index)) right)
    c.in_ok-add_if.ensures c.in_ok-add_if-2.ensures c.in_ok-add_if-3.ensures e)
    c.add_if-4.ensures
