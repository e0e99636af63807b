use Rattle.std.proofs.Common.{List, subst}
use Rattle.std.specs.List.Sorted.{IsStrictlySortedBy}
use Rattle.jc_classes.specs.Names.{name_cmp}
use Rattle.jc_report.specs.RequiredRows.{spelled_all}
use Rattle.jc_report.specs.declared.required_row.RequiredRow.{RequiredRow}
use Rattle.jc_linkage.proofs.row_list.RowList.rows.Goals as goal

pub returns-clause-rises : goal.returns-clause-rises
returns-clause-rises c = subst (λ (rows : List RequiredRow). IsStrictlySortedBy name_cmp (spelled_all rows)) c.self.view_is c.self.invariant.rises
