use Rattle.std.proofs.Common.{refl}
use Rattle.jc_report.specs.Reports.{is_wrong}
use Rattle.jc_report.specs.ReportText.{report_text}
use Rattle.jc_session.proofs.tree_check.check_report.Goals as goal

pub returns-in-Ok-clause-tells : goal.returns-in-Ok-clause-tells
returns-in-Ok-clause-tells g c = λ f is.
    let r = c.in_ok-report.report in
    (f, report_text r, refl, (r, c.in_ok-report.ensures.report f is, refl, c.wrong.ensures), c.in-Ok.ensures.ok)

pub returns-clause-tells : goal.returns-clause-tells
returns-clause-tells g c = λ f is.
    let r = c.in_ok-report.report in
    (f, report_text r, is_wrong r, refl, (r, c.in_ok-report.ensures.report f is, refl, refl), c.in-Err.ensures.front)
