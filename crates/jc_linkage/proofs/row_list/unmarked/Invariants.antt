use Rattle.std.proofs.Common.{◌≡◌, not, take}
use Rattle.std.specs.List.{filter}
use Rattle.jc_linkage.specs.inside.RowLists.{is_marked}
use Rattle.jc_linkage.proofs.row_list.unmarked.Given as goal

abbrev pub invariant-loop-number : goal.invariant-loop-number
invariant-loop-number l = l.left.items ≡ filter (λ n. not (is_marked l.marks n)) (take l.number-index l.numbers)
