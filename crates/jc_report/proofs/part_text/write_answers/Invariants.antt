use Rattle.std.proofs.Common.{drop}
use Rattle.jc_text.proofs.Sending.{HasSent}
use Rattle.jc_report.specs.PartText.{answer_lines}
use Rattle.jc_report.proofs.part_text.write_answers.Given as goal

-- all lines but those of the references that are left
abbrev pub invariant-loop-number : goal.invariant-loop-number
invariant-loop-number g l = HasSent g.W.Output.written g.W.Output.failures l.fn.out l.out (answer_lines l.facts.references l.answers)
    (answer_lines (drop l.number l.facts.references) (drop l.number l.answers))
