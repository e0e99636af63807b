use Rattle.std.proofs.Common.{sym, ◌∙◌}
use Rattle.jc_text.proofs.Sending.{◌⟫◌, sends_equal}
use Rattle.jc_text.proofs.texts.PlainRuns.{shown_spelled, shown_unspelled}
use Rattle.jc_text.proofs.text_writer.TextWriter.shown_escaped.Goals as goal

pub returns-then-is_ok : goal.returns-then-is_ok
returns-then-is_ok g c =
    let spelled = sym c.check_units.ensures.computed ∙ sym c.is_ok.ensures.value ∙ c.if-is_ok.true in
    sends_equal (sym (shown_spelled c.args.text.now spelled)) c.units.ensures

pub returns-else-is_ok : goal.returns-else-is_ok
returns-else-is_ok g c =
    let spelled = sym c.check_units.ensures.computed ∙ sym c.is_ok.ensures.value ∙ c.if-is_ok.false in
    sends_equal (sym (shown_unspelled c.args.text.now spelled)) (c.text.ensures ⟫ c.hexadecimal.ensures)
