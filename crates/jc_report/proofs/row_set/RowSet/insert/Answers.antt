use Rattle.std.proofs.Common.{◌++◌, ◌∷◌, [], List, map, subst}
use Rattle.jc_report.specs.RowView.{row_lent}
use Rattle.jc_report.specs.Rows.{Row}
use Rattle.jc_report.specs.inside.RowSets.{HoldSameRows}
use Rattle.jc_report.proofs.rows.InsertedRows.{inserted}
use Rattle.jc_report.proofs.row_set.RowSet.insert.Goals as goal

pub returns : goal.returns
returns c =
    subst (λ (held : List Row). HoldSameRows (map row_lent c.insert.new.self.keys) (held ++ row_lent c.args.row ∷ [])) c.self.view_is
    (inserted c.self.inside.rows.keys c.insert.new.self.keys c.args.row c.in_ok-insert.ensures.keys)
