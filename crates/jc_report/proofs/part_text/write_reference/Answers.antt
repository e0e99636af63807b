use Rattle.std.proofs.Common.{◌++◌, ap, codes, sym}
use Rattle.jc_text.proofs.Sending.{◌⟫◌, sends_equal}
use Rattle.jc_classes.specs.Lent.{key_lent}
use Rattle.jc_report.specs.PartText.{kind_text, named_text}
use Rattle.jc_report.proofs.lines.AnswerLines.{text_named}
use Rattle.jc_report.proofs.part_text.write_reference.Goals as goal

pub returns : goal.returns
returns g c =
    let r = c.args.reference in
    sends_equal (ap (λ class. kind_text r.kind ++ codes " " ++ named_text r.kind class (key_lent r.key)) (sym (text_named r.class.now)))
    (sends_equal c.kind_word.ensures c.text.ensures ⟫ c.text-2.ensures ⟫ c.write_named.ensures)
