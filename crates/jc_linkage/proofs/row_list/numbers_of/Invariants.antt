use Rattle.std.proofs.Common.{◌≡◌, map, take}
use Rattle.jc_report.specs.declared.required_row.RequiredRow.{RequiredRow}
use Rattle.jc_linkage.proofs.row_list.numbers_of.Given as goal

abbrev pub invariant-loop-row : goal.invariant-loop-row
invariant-loop-row l = l.numbers.items ≡ map (λ (row : RequiredRow). row.number) (take l.row-index l.rows)
