use Rattle.std.proofs.Common.{subst}
use Rattle.jc_report.specs.Reports.{IsReport}
use Rattle.jc_edits.specs.SessionState.{Contents}
use Rattle.jc_edits.proofs.reporting.HeldReport.{report_held}
use Rattle.jc_edits.proofs.report.Report.classes.Goals as goal

pub returns : goal.returns
returns c =
    let inside = c.self.inside in
    let made = report_held inside.held.files inside.linkage c.self.invariant.classes c.classes.result c.classes.ensures in
    (made.0, subst (λ (s : Contents). IsReport s.files s.prefixes made.0) c.self.view_is made.1, made.2)
