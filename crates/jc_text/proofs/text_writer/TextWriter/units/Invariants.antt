use Rattle.std.proofs.Common.{length}
use Rattle.std.specs.List.{flat_map}
use Rattle.jc_base.specs.CodeUnits.{units_before}
use Rattle.jc_text.specs.Escapes.{unit_text}
use Rattle.jc_text.proofs.Sending.{HasSent}
use Rattle.jc_text.proofs.text_writer.TextWriter.units.Given as goal

abbrev pub invariant-loop-unit : goal.invariant-loop-unit
invariant-loop-unit g l =
    HasSent g.W.Output.written g.W.Output.failures l.fn.self l.self (flat_map unit_text (units_before l.text)) (flat_map unit_text (units_before l.left))

abbrev pub decreases-loop-unit : goal.decreases-loop-unit
decreases-loop-unit g l = length (units_before l.left)
