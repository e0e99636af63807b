use Rattle.std.proofs.Common.{◌∙◌, ◌++◌, ap}
use Rattle.jc_base.proofs.StepByStep.{flat_map_all, flat_map_step}
use Rattle.jc_file.proofs.sets.FaultsAdded.{added_if, fault_if, faults_if}
use Rattle.jc_file.proofs.broken.add_faults.Goals as goal

pub loop-at-preserved : goal.loop-at-preserved
loop-at-preserved c =
    flat_map_step (fault_if c.args.rule) c.args.broken.now c.loop-at.at-index _ c.loop-at.faults.items c.add_if.new.faults.items _
    c.loop-at-test.true (added_if _ _ _ _ _ c.in_ok-add_if.ensures c.has.ensures) c.loop-at.invariant

pub returns : goal.returns
returns c =
    flat_map_all (fault_if c.args.rule) c.args.broken.now c.loop-at.at-index c.loop-at.faults.items _ c.loop-at-test.false c.loop-at.invariant
    ∙ ap (λ v. c.args.faults.now.items ++ v) (faults_if c.args.rule c.args.broken.now)
