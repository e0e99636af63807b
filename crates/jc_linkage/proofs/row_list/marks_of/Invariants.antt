use Rattle.jc_linkage.specs.inside.RowLists.{AreMarks}
use Rattle.jc_linkage.proofs.row_list.marks_of.Given as goal

abbrev pub invariant-loop-number : goal.invariant-loop-number
invariant-loop-number l = AreMarks l.numbers l.marks.items
