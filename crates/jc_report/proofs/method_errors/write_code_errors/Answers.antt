use Rattle.std.proofs.lemmas.List.{drop_all, drop_more}
use Rattle.jc_text.proofs.Sending.{none_sent}
use Rattle.jc_list.proofs.fronts.OneBehindAnother.{all_listed, item_listed}
use Rattle.jc_report.specs.ErrorsText.{code_error}
use Rattle.jc_report.proofs.method_errors.write_code_errors.Goals as goal

pub loop-fault-init : goal.loop-fault-init
loop-fault-init g c = none_sent _ _ _ _

pub loop-fault-preserved : goal.loop-fault-preserved
loop-fault-preserved g c =
    item_listed (code_error c.args.facts.now) c.loop-fault.invariant (drop_more c.args.faults.now c.loop-fault.fault-index _ c.loop-fault-test.true) c.write_code_error.ensures

pub returns : goal.returns
returns g c = all_listed (code_error c.args.facts.now) c.loop-fault.invariant (drop_all c.loop-fault.fault-index c.args.faults.now c.loop-fault-test.false)
