use Rattle.std.proofs.Common.{◌≡◌}
use Rattle.std.specs.List.{list_any}
use Rattle.jc_report.specs.ClassLent.{class_lent}
use Rattle.jc_report.specs.ErrorsText.{is_wrong_class, asked_lent}
use Rattle.jc_report.proofs.reports.GoneOver.{Along}
use Rattle.jc_report.proofs.report.has_wrong_part.Given as goal

-- those that are left decide
abbrev pub invariant-loop-class : goal.invariant-loop-class
invariant-loop-class g l =
    (goal.iterator-loop-class g).can_next l.class-iterator × (goal.iterator-loop-class g).is_finite l.class-iterator
    × Along g.I.Iterator.next_gives class_lent l.fn.classes l.class-iterator (λ all left. list_any (is_wrong_class (asked_lent l.asked)) all ≡ list_any (is_wrong_class (asked_lent l.asked)) left)
