use Rattle.std.proofs.Common.{drop}
use Rattle.std.specs.List.{flat_map}
use Rattle.jc_text.proofs.Sending.{HasSent}
use Rattle.jc_report.specs.ErrorsText.{overridden_error}
use Rattle.jc_report.proofs.inheritance_errors.write_overridden.Given as goal

-- all lines but those of the methods that are left
abbrev pub invariant-loop-method : goal.invariant-loop-method
invariant-loop-method g l =
    HasSent g.W.Output.written g.W.Output.failures l.fn.text l.text (flat_map (overridden_error l.name) l.overridden)
    (flat_map (overridden_error l.name) (drop l.method-index l.overridden))
