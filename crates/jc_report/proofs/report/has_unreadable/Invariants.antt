use Rattle.std.proofs.Common.{◌≡◌}
use Rattle.std.specs.List.{list_any}
use Rattle.jc_report.specs.ErrorsText.{is_wrong_file, asked_lent}
use Rattle.jc_report.specs.FileRowView as lent
use Rattle.jc_report.proofs.reports.GoneOver.{Along}
use Rattle.jc_report.proofs.report.has_unreadable.Given as goal

-- those that are left decide
abbrev pub invariant-loop-row : goal.invariant-loop-row
invariant-loop-row g l =
    (goal.iterator-loop-row g).can_next l.row-iterator × (goal.iterator-loop-row g).is_finite l.row-iterator
    × Along g.I.Iterator.next_gives lent.row_lent l.fn.files l.row-iterator (λ all left. list_any (is_wrong_file (asked_lent l.asked)) all ≡ list_any (is_wrong_file (asked_lent l.asked)) left)
