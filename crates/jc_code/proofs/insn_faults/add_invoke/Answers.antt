use Rattle.std.proofs.Common.{◌∙◌, ◌++◌, ap, sym}
use Rattle.std.proofs.lemmas.Result.{on_ok_weaker}
use Rattle.jc_code.specs.declared.code_fault.CodeRule.TheVariants as rules
use Rattle.jc_code.specs.CodeFaults.{insn_breaks}
use Rattle.jc_code.proofs.appended.RuleFaults.{one, right_entry, wrong_other, wrong_virtual}
use Rattle.jc_code.proofs.insn_faults.add_invoke.Goals as goal

pub returns-then-is_right_entry : goal.returns-then-is_right_entry
unfolding insn_breaks
returns-then-is_right_entry c =
    on_ok_weaker c.add_if.result
    (λ e. right_entry c.args.place _ _ _ _ _ (sym c.is_right_entry.ensures ∙ c.if-is_right_entry.true) (e ∙ ap (λ b. c.args.found.now.items ++ one c.args.place rules.S16 b) c.is_bad_special-is_bad.ensures))
    c.add_if.ensures

pub returns-then-eq : goal.returns-then-eq
unfolding insn_breaks
returns-then-eq c =
    on_ok_weaker c.add_if-then-eq.result
    (λ e. wrong_virtual c.args.place _ _ _ _ _ _ (sym c.eq.ensures ∙ c.if-eq.true) (sym c.is_right_entry.ensures ∙ c.if-is_right_entry.false) e)
    c.add_if-then-eq.ensures

pub returns : goal.returns
unfolding insn_breaks
returns c =
    on_ok_weaker c.add_if-2.result
    (λ e. wrong_other c.args.place _ _ _ _ _ _ (sym c.eq.ensures ∙ c.if-eq.false) (sym c.is_right_entry.ensures ∙ c.if-is_right_entry.false) e)
    c.add_if-2.ensures
