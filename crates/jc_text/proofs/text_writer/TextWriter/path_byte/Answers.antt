use Rattle.std.proofs.Common.{sym, ap, ◌∙◌}
use Rattle.jc_text.specs.Escapes.{is_plain}
use Rattle.jc_text.proofs.Sending.{◌⟫◌, sends_equal}
use Rattle.jc_text.proofs.texts.PlainRuns.{plain_byte, backslash_byte, other_byte}
use Rattle.jc_text.proofs.text_writer.TextWriter.path_byte.Goals as goal

pub returns-then-is_plain : goal.returns-then-is_plain
returns-then-is_plain g c =
    let plain = sym (ap is_plain c.from.ensures) ∙ sym c.is_plain.ensures ∙ c.if-is_plain.true in
    sends_equal (sym (plain_byte c.args.byte plain)) c.text.ensures

pub returns-then-byte-eq92 : goal.returns-then-byte-eq92
returns-then-byte-eq92 g c = sends_equal (sym (backslash_byte c.args.byte c.if-byte-eq92.true)) c.text-then-byte-eq92.ensures

pub returns-else-byte-eq92 : goal.returns-else-byte-eq92
returns-else-byte-eq92 g c =
    let plain = sym (ap is_plain c.from.ensures) ∙ sym c.is_plain.ensures ∙ c.if-is_plain.false in
    sends_equal (sym (other_byte c.args.byte plain c.if-byte-eq92.false)) (c.text-else-byte-eq92.ensures ⟫ c.hexadecimal.ensures)
