use Rattle.std.proofs.Common.{[], rules, subst}
use Rattle.jc_classes.proofs.using.Marking.{AreMarked, all_marks, marked_none, marks_added}
use Rattle.jc_classes.proofs.used.marked.Goals as goal

pub returns : goal.returns
returns c =
    let class = c.args.class.now in
    let none = all_marks class [] c.in_ok-marks.marks.items (subst (λ n. AreMarked n [] c.in_ok-marks.marks.items) c.constant_count.ensures (marked_none _ c.in_ok-marks.marks.items (search rules))) in
    marks_added class [] c.args.names.now c.in_ok-marks.marks.items _ none c.mark_all.ensures
