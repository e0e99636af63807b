use Rattle.std.proofs.Common.{map, ap, ◌∙◌}
use Rattle.jc_report.specs.FileRows.{rows}
use Rattle.jc_edits.specs.SessionState.{Contents}
use Rattle.jc_edits.specs.inside.Claims.{claimed_row}
use Rattle.jc_edits.proofs.holding.RowsByClaims.{claimed_rows}
use Rattle.jc_edits.proofs.report.Report.files.Goals as goal

pub returns : goal.returns
returns c =
    let claims = c.self.inside.held.claims in
    ap (map (claimed_row claims)) c.iter.ensures.entries ∙ claimed_rows claims c.self.inside.held.files c.self.invariant.claims ∙ ap (λ (s : Contents). rows s.files) c.self.view_is
