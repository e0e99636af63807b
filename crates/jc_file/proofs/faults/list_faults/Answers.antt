use Rattle.std.proofs.Common.{map}
use Rattle.jc_base.proofs.StepByStep.{flat_map_step}
use Rattle.jc_file.specs.declared.fault.TheConstants.FormatRule.{ALL}
use Rattle.jc_file.specs.Faults.{fault_at}
use Rattle.jc_file.specs.inside.Broken.{places_in}
use Rattle.jc_file.proofs.faults.list_faults.Goals as goal

pub loop-rule-preserved : goal.loop-rule-preserved
loop-rule-preserved c =
    flat_map_step (λ rule. map (fault_at rule) (places_in rule c.args.broken.now)) ALL c.loop-rule.rule-index _ c.loop-rule.faults.items c.add_faults.new.faults.items _
    c.loop-rule-test.true c.in_ok-add_faults.ensures c.loop-rule.invariant
