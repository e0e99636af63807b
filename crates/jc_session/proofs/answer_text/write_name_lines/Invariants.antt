use Rattle.std.proofs.Common.{drop}
use Rattle.std.specs.List.{flat_map}
use Rattle.jc_text.proofs.Sending.{HasSent}
use Rattle.jc_session.proofs.listings.NameLines.{line_of}
use Rattle.jc_session.proofs.answer_text.write_name_lines.Given as goal

-- all lines but those of the names that are left
abbrev pub invariant-loop-name : goal.invariant-loop-name
invariant-loop-name g l = HasSent g.W.Output.written g.W.Output.failures l.fn.text l.text (flat_map line_of l.names) (flat_map line_of (drop l.name-index l.names))
