use Rattle.std.specs.List.{flat_map}
use Rattle.jc_text.proofs.Sending.{HasSent}
use Rattle.jc_report.specs.FileRowView as lent
use Rattle.jc_report.specs.FileRowText.{row_text}
use Rattle.jc_report.proofs.reports.GoneOver.{Along}
use Rattle.jc_report.proofs.report_text.write_files.Given as goal

-- all lines but those that are left
abbrev pub invariant-loop-row : goal.invariant-loop-row
invariant-loop-row g l =
    (goal.iterator-loop-row g).can_next l.row-iterator × (goal.iterator-loop-row g).is_finite l.row-iterator
    × Along g.I.Iterator.next_gives lent.row_lent l.fn.files l.row-iterator (λ all left. HasSent g.W.Output.written g.W.Output.failures l.fn.text l.text (flat_map row_text all) (flat_map row_text left))
