use Rattle.std.proofs.lemmas.Result.{on_ok_weaker}
use Rattle.jc_report.specs.ClassRows.{required_rows}
use Rattle.jc_report.proofs.reports.GivenRows.{rows_more, rows_of_all}
use Rattle.jc_report.proofs.report.fill_required.Goals as goal

pub loop-class-preserved : goal.loop-class-preserved
loop-class-preserved c =
    rows_more required_rows c.args.classes.now c.loop-class.class-index c.class-item.result _ _ _ c.loop-class-test.true c.class-item.is c.class.view_is
    c.loop-class.invariant c.in_ok-push_required.ensures

pub returns : goal.returns
returns c =
    on_ok_weaker c.copy_into.result
    (rows_of_all required_rows c.args.classes.now c.loop-class.class-index c.loop-class.apart _ c.loop-class-test.false c.loop-class.invariant)
    c.copy_into.ensures
