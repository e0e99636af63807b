use Rattle.std.proofs.Common.{drop}
use Rattle.jc_text.specs.Numbers.{hexadecimal}
use Rattle.jc_text.proofs.Sending.{HasSent}
use Rattle.jc_text.proofs.text_writer.TextWriter.hexadecimal.Given as goal

abbrev pub invariant-loop-byte : goal.invariant-loop-byte
invariant-loop-byte g l = HasSent g.W.Output.written g.W.Output.failures l.fn.self l.self (hexadecimal l.bytes) (hexadecimal (drop l.byte-index l.bytes))
