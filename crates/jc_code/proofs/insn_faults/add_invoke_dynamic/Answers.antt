use Rattle.std.proofs.Common.{refl}
use Rattle.std.proofs.lemmas.Result.{on_ok_weaker}
use Rattle.jc_code.specs.declared.code_fault.CodeRule.TheVariants as rules
use Rattle.jc_code.specs.CodeFaults.{insn_breaks}
use Rattle.jc_code.proofs.appended.RuleFaults.{two}
use Rattle.jc_code.proofs.insn_faults.add_invoke_dynamic.Goals as goal

pub returns : goal.returns
unfolding insn_breaks
returns c = on_ok_weaker c.add_if-2.result (λ e. two c.args.place rules.S14 rules.S15 _ _ _ _ _ _ _ c.breaks_s14.ensures refl c.in_ok-add_if.ensures e) c.add_if-2.ensures
