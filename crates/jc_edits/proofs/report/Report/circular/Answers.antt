-- The names are those of the classes held, and they are the classes of the one report.
use Rattle.std.proofs.Common.{◌≡◌, ◌∙◌, ap, subst, sym}
use Rattle.jc_report.specs.Reports.{IsReport, Report, circular_names}
use Rattle.jc_report.proofs.reports.OneReport.{report_one}
use Rattle.jc_edits.specs.SessionState.{Contents}
use Rattle.jc_edits.proofs.reporting.HeldReport.{report_held}
use Rattle.jc_edits.proofs.report.Report.circular.Goals as goal

pub returns : goal.returns
returns c = λ r is.
    let inside = c.self.inside in
    let files = inside.held.files in
    let prefixes = inside.linkage.prefixes in
    let held = c.circular.ensures in
    let made = report_held files inside.linkage c.self.invariant.classes held.0 held.1 in
    let here = subst (λ (s : Contents). IsReport s.files s.prefixes r) (sym c.self.view_is) is in
    let same : made.0 ≡ r = report_one files prefixes made.0 r made.1 here in
    held.2 ∙ ap circular_names made.2 ∙ sym made.1.circular ∙ ap (λ (q : Report). q.circular) same
