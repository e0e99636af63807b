use Rattle.std.proofs.Common.{drop}
use Rattle.std.specs.List.{flat_map}
use Rattle.jc_text.proofs.Sending.{HasSent}
use Rattle.jc_report.specs.ErrorsText.{code_error}
use Rattle.jc_report.proofs.method_errors.write_code_errors.Given as goal

-- all lines but those of the faults that are left
abbrev pub invariant-loop-fault : goal.invariant-loop-fault
invariant-loop-fault g l =
    HasSent g.W.Output.written g.W.Output.failures l.fn.text l.text (flat_map (code_error l.facts) l.faults) (flat_map (code_error l.facts) (drop l.fault-index l.faults))
