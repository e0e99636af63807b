use Rattle.jc_text.proofs.Sending.{HasSent}
use Rattle.jc_report.specs.ClassLent.{class_lent}
use Rattle.jc_report.specs.inside.Given.{circular_lines}
use Rattle.jc_report.proofs.reports.GoneOver.{Along}
use Rattle.jc_report.proofs.report_text.write_circular.Given as goal

-- all lines but those of the classes that are left
abbrev pub invariant-loop-class : goal.invariant-loop-class
invariant-loop-class g l =
    (goal.iterator-loop-class g).can_next l.class-iterator × (goal.iterator-loop-class g).is_finite l.class-iterator
    × Along g.I.Iterator.next_gives class_lent l.fn.classes l.class-iterator (λ all left. HasSent g.W.Output.written g.W.Output.failures l.fn.text l.text (circular_lines all) (circular_lines left))
