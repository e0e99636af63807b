use Rattle.std.proofs.Common.{length}
use Rattle.jc_text.specs.Escapes.{path_text}
use Rattle.jc_text.proofs.Sending.{HasSent}
use Rattle.jc_text.proofs.text_writer.TextWriter.path.Given as goal

abbrev pub invariant-loop-byte : goal.invariant-loop-byte
invariant-loop-byte g l = HasSent g.W.Output.written g.W.Output.failures l.fn.self l.self (path_text l.path) (path_text l.left)

abbrev pub decreases-loop-byte : goal.decreases-loop-byte
decreases-loop-byte g l = length l.left
