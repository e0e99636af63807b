use Rattle.std.proofs.Common.{sym, ap, ◌∙◌}
use Rattle.jc_text.specs.Numbers.{hexadecimal}
use Rattle.jc_text.proofs.Sending.{◌⟫◌, sends_equal}
use Rattle.jc_text.proofs.texts.PlainRuns.{plain_unit, backslash_unit, other_unit}
use Rattle.jc_text.proofs.text_writer.TextWriter.unit.Goals as goal

pub returns-then-is_plain : goal.returns-then-is_plain
returns-then-is_plain g c = sends_equal (sym (plain_unit c.args.unit (sym c.is_plain.ensures ∙ c.if-is_plain.true))) c.text.ensures

pub returns-then-unit-from : goal.returns-then-unit-from
returns-then-unit-from g c = sends_equal (sym (backslash_unit c.args.unit (c.if-unit-from.true ∙ c.from.ensures))) c.text-then-unit-from.ensures

pub returns-else-unit-from : goal.returns-else-unit-from
returns-else-unit-from g c =
    sends_equal (sym (other_unit c.args.unit (sym c.is_plain.ensures ∙ c.if-is_plain.false) (λ e. c.if-unit-from.false (e ∙ sym c.from.ensures))))
    (c.text-else-unit-from.ensures ⟫ sends_equal (ap hexadecimal c.to_be_bytes.ensures) c.hexadecimal.ensures)
