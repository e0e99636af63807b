use Rattle.std.proofs.Common.{subst, sym}
use Rattle.jc_report.specs.Reports.{IsReport}
use Rattle.jc_edits.specs.SessionState.{Contents}
use Rattle.jc_edits.proofs.reporting.HeldReport.{held_classes}
use Rattle.jc_edits.proofs.report.Report.holders.Goals as goal

pub returns : goal.returns
returns c = λ r is.
    let inside = c.self.inside in
    let meets = c.self.invariant.classes in
    let here = subst (λ (s : Contents). IsReport s.files s.prefixes r) (sym c.self.view_is) is in
    c.holders.ensures r.classes (held_classes inside.held.files inside.linkage meets r here) r.required here.required
