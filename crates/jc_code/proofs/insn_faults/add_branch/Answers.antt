use Rattle.std.proofs.Common.{◌≡◌, not}
use Rattle.std.proofs.Common.{rules as found_rules}
use Rattle.std.proofs.lemmas.Result.{on_ok_weaker}
use Rattle.jc_code.specs.declared.code_fault.CodeRule.TheVariants as rules
use Rattle.jc_code.specs.CodeFaults.{insn_breaks}
use Rattle.jc_code.specs.CodeRules.{is_target}
use Rattle.jc_code.proofs.appended.RuleFaults.{two}
use Rattle.jc_code.proofs.insn_faults.add_branch.Goals as goal

pub returns : goal.returns
unfolding insn_breaks
returns c =
    let missed : c.breaks_s3.result ≡ not (is_target c.args.scope.now c.args.target) = search found_rules in
    on_ok_weaker c.add_if-2.result (λ e. two c.args.place rules.S2 rules.S3 _ _ _ _ _ _ _ c.breaks_s2.ensures missed c.in_ok-add_if.ensures e) c.add_if-2.ensures
