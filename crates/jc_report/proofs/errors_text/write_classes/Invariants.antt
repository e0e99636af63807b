use Rattle.std.proofs.Common.{drop}
use Rattle.jc_text.proofs.Sending.{HasSent}
use Rattle.jc_report.specs.ErrorsText.{asked_lent, classes_errors}
use Rattle.jc_report.proofs.errors_text.write_classes.Given as goal

-- all lines but those of the classes that are left
abbrev pub invariant-loop-place : goal.invariant-loop-place
invariant-loop-place g l =
    HasSent g.W.Output.written g.W.Output.failures l.fn.text l.text (classes_errors (asked_lent l.asked) l.classes l.inheritance l.unimplemented)
    (classes_errors (asked_lent l.asked) (drop l.place l.classes) (drop l.place l.inheritance) (drop l.place l.unimplemented))
