use Rattle.std.proofs.lemmas.List.{drop_all, drop_more}
use Rattle.jc_text.proofs.Sending.{none_sent}
use Rattle.jc_list.proofs.fronts.OneBehindAnother.{all_listed, item_listed}
use Rattle.jc_list.specs.FaultLines.{format_line}
use Rattle.jc_report.specs.ErrorsText.{of_class}
use Rattle.jc_report.proofs.errors.FrontTold.{told_behind}
use Rattle.jc_report.proofs.errors_text.write_format_errors.Goals as goal

pub loop-fault-init : goal.loop-fault-init
loop-fault-init g c = none_sent _ _ _ _

pub loop-fault-preserved : goal.loop-fault-preserved
loop-fault-preserved g c =
    item_listed (λ fault. of_class c.args.name.now (format_line fault)) c.loop-fault.invariant
    (drop_more c.args.faults.now c.loop-fault.fault-index _ c.loop-fault-test.true) (told_behind c.args.name.now _ c.write_front.ensures c.write_format_line.ensures)

pub returns : goal.returns
returns g c =
    all_listed (λ fault. of_class c.args.name.now (format_line fault)) c.loop-fault.invariant (drop_all c.loop-fault.fault-index c.args.faults.now c.loop-fault-test.false)
