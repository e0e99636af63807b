use Rattle.std.proofs.Common.{◌≡◌, Some, None, rules, ap, sym, ◌∙◌}
use Rattle.std.specs.Option.{option_map}
use Rattle.jc_report.specs.FileRows.{winner}
use Rattle.jc_edits.specs.SessionState.{Contents}
use Rattle.jc_edits.proofs.holding.ClaimsWin.{claims_win}
use Rattle.jc_edits.proofs.report.Report.winning_file.Goals as goal

pub returns-in_err-first : goal.returns-in_err-first
returns-in_err-first c =
    let name = c.args.name.now in
    let claimed = ap (λ (a : Contents). winner a.files name) (sym c.self.view_is) ∙ claims_win c.self.inside.held.claims c.self.inside.held.files c.self.invariant.claims name ∙ sym c.first.ensures in
    let none : winner c.args.self.now.files name ≡ None = claimed ∙ ap (option_map (λ path. path.now)) c.in_err-first.was in
    search (rules, none)

pub returns : goal.returns
returns c =
    let name = c.args.name.now in
    let claimed = ap (λ (a : Contents). winner a.files name) (sym c.self.view_is) ∙ claims_win c.self.inside.held.claims c.self.inside.held.files c.self.invariant.claims name ∙ sym c.first.ensures in
    let some : winner c.args.self.now.files name ≡ Some c.in_ok-first.field-0.now = claimed ∙ ap (option_map (λ path. path.now)) c.in_ok-first.was in
    rw some c.file.ensures
