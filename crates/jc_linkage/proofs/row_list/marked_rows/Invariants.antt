use Rattle.std.proofs.Common.{◌≡◌, take}
use Rattle.std.specs.List.{filter}
use Rattle.jc_report.specs.declared.required_row.RequiredRow.{RequiredRow}
use Rattle.jc_linkage.specs.inside.RowLists.{is_marked}
use Rattle.jc_linkage.proofs.row_list.marked_rows.Given as goal

abbrev pub invariant-loop-row : goal.invariant-loop-row
invariant-loop-row l = l.kept.items ≡ filter (λ (row : RequiredRow). is_marked l.marks row.number) (take l.row-index l.rows)
