use Rattle.std.proofs.Common.{◌≡◌, ◌∙◌, ◌++◌, List, ap, append-nil, map, subst, sym}
use Rattle.std.specs.List.{Contains}
use Rattle.jc_report.specs.RowView.{row_lent}
use Rattle.jc_report.specs.Rows as rows
use Rattle.jc_report.specs.Rows.{AreRows}
use Rattle.jc_report.proofs.rows.SortedRows.{copied_rows}
use Rattle.jc_report.proofs.row_set.RowSet.copy_into.Goals as goal

pub returns : goal.returns
returns c =
    let keys = c.self.inside.rows.keys in
    let put : c.loop-row.rows.items ≡ c.args.rows.now.items ++ keys =
    sym (append-nil c.loop-row.rows.items)
    ∙ ap (λ left. c.loop-row.rows.items ++ left) (sym c.in-None.ensures.steps.0)
    ∙ c.loop-row.invariant
    ∙ ap (λ left. c.args.rows.now.items ++ left) (c.into_iter-row-iterator.ensures.into_iter_gives ∙ c.iter-row-items.ensures.rest) in
    subst (λ (held : List rows.Row). AreRows (map row_lent c.loop-row.rows.items) (Contains held)) c.self.view_is
    (copied_rows keys c.args.rows.now.items c.loop-row.rows.items c.iter-row-items.ensures.ordered c.requires put)
