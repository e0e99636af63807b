use Rattle.std.proofs.Common.{sym, ap, ◌∙◌}
use Rattle.std.specs.FinMap as fin
use Rattle.jc_base.proofs.maps.TreeEntries.{entries-finite}
use Rattle.jc_report.specs.RequiredRows.{spelled}
use Rattle.jc_linkage.specs.inside.RowMaps.{keyed}
use Rattle.jc_linkage.proofs.row_map.RowMap.iter.Goals as goal

pub returns : goal.returns
returns g c = ap keyed c.iter.ensures.rest ∙ sym (entries-finite spelled c.self.inside.entries.entries c.iter.ensures.ordered) ∙ ap fin.entries c.self.view_is
