use Rattle.jc_base.proofs.StepByStep.{flat_map_step}
use Rattle.jc_code.specs.declared.code_fault.TheConstants.CodeRule.{ALL}
use Rattle.jc_code.specs.inside.Found.{against}
use Rattle.jc_code.proofs.found.by_rule.Goals as goal

pub loop-rule-preserved : goal.loop-rule-preserved
loop-rule-preserved c =
    flat_map_step (λ rule. against rule c.args.found.now) ALL c.loop-rule.rule-index _ c.loop-rule.faults.items c.add_against.new.faults.items _
    c.loop-rule-test.true c.in_ok-add_against.ensures c.loop-rule.invariant
