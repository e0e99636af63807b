use Rattle.std.proofs.lemmas.Result.{on_ok_weaker}
use Rattle.jc_code.specs.declared.code_fault.CodeRule.TheVariants as rules
use Rattle.jc_code.specs.CodeFaults.{insn_breaks}
use Rattle.jc_code.proofs.appended.RuleFaults.{three}
use Rattle.jc_code.proofs.insn_faults.add_type.Goals as goal

pub returns : goal.returns
unfolding insn_breaks
returns c =
    on_ok_weaker c.add_if-3.result
    (λ e. three c.args.place rules.S17 rules.S18 rules.S19 _ _ _ _ _ _ _ _ _ _ c.breaks_s17.ensures c.breaks_s18.ensures c.breaks_s19.ensures c.in_ok-add_if.ensures c.in_ok-add_if-2.ensures e)
    c.add_if-3.ensures
