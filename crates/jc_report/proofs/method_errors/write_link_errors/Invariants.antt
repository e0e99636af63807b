use Rattle.std.specs.List.{flat_map}
use Rattle.jc_text.proofs.Sending.{HasSent}
use Rattle.jc_report.specs.ErrorsText.{link_error}
use Rattle.jc_report.proofs.method_errors.write_link_errors.Given as goal

-- all lines but those that are left
abbrev pub invariant-loop-link : goal.invariant-loop-link
invariant-loop-link g l =
    HasSent g.W.Output.written g.W.Output.failures l.fn.text l.text (flat_map (link_error l.facts) l.fn.links) (flat_map (link_error l.facts) l.link-iterator)
