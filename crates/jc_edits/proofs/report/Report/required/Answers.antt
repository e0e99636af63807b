use Rattle.std.proofs.Common.{subst, sym}
use Rattle.jc_report.specs.Reports.{IsReport}
use Rattle.jc_edits.specs.SessionState.{Contents}
use Rattle.jc_edits.proofs.reporting.HeldReport.{required_held}
use Rattle.jc_edits.proofs.report.Report.required.Goals as goal

pub returns : goal.returns
returns c = λ r is.
    let inside = c.self.inside in
    let meets = c.self.invariant.classes in
    required_held inside.held.files inside.linkage meets c.required.result c.required.ensures r
    (subst (λ (s : Contents). IsReport s.files s.prefixes r) (sym c.self.view_is) is)
