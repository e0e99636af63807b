use Rattle.std.proofs.Common.{sym, ap, ◌∙◌}
use Rattle.std.specs.FinMap as fin
use Rattle.std.proofs.lemmas.Result.{IfOk-weaker, on_ok_weaker, on_err_weaker}
use Rattle.jc_report.specs.RequiredRows.{spelled}
use Rattle.jc_base.proofs.maps.TreeEntries.{get-finite, insert-finite}
use Rattle.jc_linkage.proofs.row_map.RowMap.insert.Goals as goal

pub returns-clause-before : goal.returns-clause-before
returns-clause-before g c =
    let key = spelled c.args.row in
    let found = sym (get-finite spelled c.self.inside.entries.entries key) ∙ ap (λ m. fin.get m key) c.self.view_is in
    IfOk-weaker c.insert.result _ _ (λ before is. is ∙ found) c.insert.ensures.old

pub returns-clause-ok : goal.returns-clause-ok
returns-clause-ok g c =
    let key = spelled c.args.row in
    on_ok_weaker c.insert.result (λ updates. insert-finite spelled key c.self.inside.entries c.insert.new.self c.args.value updates ∙ ap (λ m. fin.insert m key c.args.value) c.self.view_is) c.insert.ensures.updates

pub returns-clause-absent : goal.returns-clause-absent
returns-clause-absent g c =
    let key = spelled c.args.row in
    let found = sym (get-finite spelled c.self.inside.entries.entries key) ∙ ap (λ m. fin.get m key) c.self.view_is in
    on_err_weaker c.insert.result (λ absent. sym found ∙ absent) c.insert.ensures.absent
