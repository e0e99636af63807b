use Rattle.std.proofs.Common.{slice_get, subst}
use Rattle.jc_linkage.specs.Holders.{CountsHolders}
use Rattle.jc_report.specs.Reports.{IsReport, Report}
use Rattle.jc_edits.specs.SessionState.{SessionState}
use Rattle.jc_edits.proofs.session.Session.holders.Goals as goal

pub returns : goal.returns
returns c = subst (λ (s : SessionState). (r : Report) → IsReport s.files s.prefixes r → CountsHolders r.classes (slice_get r.required c.args.place) c.holders.result) c.self.view_is c.holders.ensures
