use Rattle.std.specs.List.{flat_map}
use Rattle.jc_text.proofs.Sending.{HasSent}
use Rattle.jc_report.specs.ClassLent.{class_lent}
use Rattle.jc_report.specs.ReportText.{class_text}
use Rattle.jc_report.proofs.reports.GoneOver.{Along}
use Rattle.jc_report.proofs.report_text.write_classes.Given as goal

-- all lines but those that are left
abbrev pub invariant-loop-class : goal.invariant-loop-class
invariant-loop-class g l =
    (goal.iterator-loop-class g).can_next l.class-iterator × (goal.iterator-loop-class g).is_finite l.class-iterator
    × Along g.I.Iterator.next_gives class_lent l.fn.classes l.class-iterator (λ all left. HasSent g.W.Output.written g.W.Output.failures l.fn.text l.text (flat_map class_text all) (flat_map class_text left))
