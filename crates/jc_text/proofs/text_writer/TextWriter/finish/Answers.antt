use Rattle.std.proofs.Common.{rules}
use Rattle.jc_text.proofs.text_writer.TextWriter.finish.Goals as goal

pub returns-then-self-clause-ok : goal.returns-then-self-clause-ok
returns-then-self-clause-ok c = search rules
