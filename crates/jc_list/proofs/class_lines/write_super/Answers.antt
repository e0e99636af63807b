use Rattle.std.proofs.Common.{◌∙◌, ap, sym}
use Rattle.jc_text.proofs.Sending.{sends_equal}
use Rattle.jc_list.specs.Texts.{shown_text}
use Rattle.jc_list.proofs.lines.Choices.{no_super, some_super}
use Rattle.jc_list.proofs.class_lines.write_super.Goals as goal

pub returns-then-super_class-eq0 : goal.returns-then-super_class-eq0
returns-then-super_class-eq0 g c =
    let none = sym (ap (λ index. index.0) c.super_class.ensures) ∙ c.if-super_class-eq0.true in
    sends_equal (sym (no_super c.args.class.now none)) c.text.ensures

pub returns-else-super_class-eq0 : goal.returns-else-super_class-eq0
returns-else-super_class-eq0 g c =
    let text = some_super c.args.class.now (λ e. c.if-super_class-eq0.false (ap (λ index. index.0) c.super_class.ensures ∙ e)) in
    sends_equal (ap shown_text c.super_name.ensures ∙ sym text) c.write_text.ensures
