use Rattle.std.proofs.Common.{◌<◌, length, get_or, subst, sym, arith, rules}
use Rattle.std.proofs.lemmas.List.Elements.{Contains-get_or}
use Rattle.jc_linkage.specs.inside.RowLists.{AreMarks}
use Rattle.jc_linkage.proofs.required_rows.Marked.{marks_more, marks_none}
use Rattle.jc_linkage.proofs.row_list.marks_of.Goals as goal

pub loop-number-init : goal.loop-number-init
loop-number-init c = subst (AreMarks c.args.numbers.now) (sym (search rules)) (marks_none c.args.numbers.now c.args.count)

pub loop-number-preserved : goal.loop-number-preserved
loop-number-preserved c =
    let numbers = c.args.numbers.now in
    let i = c.loop-number.number-index in
    let less : i < length numbers = omega (arith, c.loop-number-test.true) in
    marks_more numbers c.loop-number.marks.items c.mark.new.marks.items (get_or numbers i 0) c.loop-number.invariant (Contains-get_or numbers i 0 less) c.mark.ensures
