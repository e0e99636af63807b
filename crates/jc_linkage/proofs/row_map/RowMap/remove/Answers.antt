use Rattle.std.proofs.Common.{sym, ap, ◌∙◌}
use Rattle.std.specs.FinMap as fin
use Rattle.jc_report.specs.RequiredRows.{spelled}
use Rattle.jc_base.proofs.maps.TreeEntries.{get-finite, remove-finite}
use Rattle.jc_linkage.proofs.row_map.RowMap.remove.Goals as goal

pub returns-clause-before : goal.returns-clause-before
returns-clause-before g c =
    let key = spelled c.args.row.now in
    c.remove.ensures.value ∙ sym (get-finite spelled c.self.inside.entries.entries key) ∙ ap (λ m. fin.get m key) c.self.view_is

pub returns-clause-removed : goal.returns-clause-removed
returns-clause-removed g c =
    let key = spelled c.args.row.now in
    remove-finite spelled key c.self.inside.entries c.remove.new.self c.remove.ensures.updates ∙ ap (λ m. fin.remove m key) c.self.view_is
