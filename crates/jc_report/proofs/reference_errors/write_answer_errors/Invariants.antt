use Rattle.std.proofs.Common.{drop}
use Rattle.jc_text.proofs.Sending.{HasSent}
use Rattle.jc_report.specs.ErrorsText.{answer_errors}
use Rattle.jc_report.proofs.reference_errors.write_answer_errors.Given as goal

-- all lines but those of the references that are left
abbrev pub invariant-loop-number : goal.invariant-loop-number
invariant-loop-number g l =
    HasSent g.W.Output.written g.W.Output.failures l.fn.text l.text (answer_errors l.used_only l.facts 0 l.facts.references l.answers)
    (answer_errors l.used_only l.facts l.number (drop l.number l.facts.references) (drop l.number l.answers))
