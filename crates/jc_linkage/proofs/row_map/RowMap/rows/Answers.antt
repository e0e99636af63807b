use Rattle.std.proofs.Common.{map, sym, ap, ◌∙◌}
use Rattle.std.specs.FinMap as fin
use Rattle.jc_base.proofs.maps.TreeEntries.{keys-finite}
use Rattle.jc_report.specs.RequiredRows.{row_required, spelled}
use Rattle.jc_report.specs.RowKeys.{row_key}
use Rattle.jc_linkage.proofs.required_rows.RowLists.{keys_of_rows}
use Rattle.jc_linkage.proofs.row_map.RowMap.rows.Goals as goal

pub returns : goal.returns
returns g c =
    ap (λ rows. map row_key (map row_required rows)) c.keys.ensures.rest ∙ keys_of_rows _
    ∙ sym (keys-finite spelled c.self.inside.entries.entries c.keys.ensures.ordered) ∙ ap fin.keys c.self.view_is
