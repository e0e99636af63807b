use Rattle.std.proofs.Common.{sym, ◌∙◌}
use Rattle.jc_text.proofs.Sending.{sends_dropped, sends_equal}
use Rattle.jc_text.proofs.texts.PlainRuns.{shown_plain}
use Rattle.jc_text.proofs.text_writer.TextWriter.shown.Goals as goal

pub returns-then-has_failed : goal.returns-then-has_failed
returns-then-has_failed g c = sends_dropped (sym c.has_failed.ensures ∙ c.if-has_failed.true)

pub returns-then-are_plain : goal.returns-then-are_plain
returns-then-are_plain g c = sends_equal (sym (shown_plain c.args.text.now (sym c.are_plain.ensures ∙ c.if-are_plain.true))) c.text.ensures
