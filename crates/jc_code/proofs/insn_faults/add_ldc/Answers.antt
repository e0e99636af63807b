use Rattle.std.proofs.lemmas.Result.{on_ok_weaker}
use Rattle.jc_code.specs.declared.code_fault.CodeRule.TheVariants as rules
use Rattle.jc_code.specs.CodeFaults.{insn_breaks}
use Rattle.jc_code.proofs.appended.RuleFaults.{two}
use Rattle.jc_code.proofs.insn_faults.add_ldc.Goals as goal

pub returns : goal.returns
unfolding insn_breaks
returns c = on_ok_weaker c.add_if-2.result (λ e. two c.args.place rules.S6 rules.S7 _ _ _ _ _ _ _ c.breaks_s6.ensures c.breaks_s7.ensures c.in_ok-add_if.ensures e) c.add_if-2.ensures
