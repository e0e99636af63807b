use Rattle.std.proofs.Common.{[], drop}
use Rattle.std.specs.List.{flat_map}
use Rattle.std.specs.Prelude.{slice_index_or}
use Rattle.jc_text.proofs.Sending.{HasSent}
use Rattle.jc_report.specs.ErrorsText.{unimplemented_error}
use Rattle.jc_report.proofs.inheritance_errors.write_unimplemented.Given as goal

-- all lines but those of the methods that are left
abbrev pub invariant-loop-number : goal.invariant-loop-number
invariant-loop-number g l =
    HasSent g.W.Output.written g.W.Output.failures l.fn.text l.text (flat_map (unimplemented_error l.name) (slice_index_or l.unimplemented l.place []))
    (flat_map (unimplemented_error l.name) (drop l.number (slice_index_or l.unimplemented l.place [])))
