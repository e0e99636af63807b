use Rattle.std.proofs.Common.{◌∷◌, ◌∙◌, ap, sym}
use Rattle.jc_text.proofs.Sending.{◌⟫◌, sends_equal, sends_nothing}
use Rattle.jc_list.proofs.lines.Choices.{flag_shown, flag_hidden}
use Rattle.jc_list.proofs.texts.write_flag.Goals as goal

pub returns-then-is_in : goal.returns-then-is_in
returns-then-is_in g c =
    let set = sym c.is_in.ensures ∙ c.if-is_in.true in
    sends_equal (ap (λ name. 32 ∷ name) (c.as_bytes.ensures.value ∙ c.name.ensures) ∙ sym (flag_shown c.args.bits c.args.flag set)) (c.text.ensures ⟫ c.text-then-is_in.ensures)

pub returns-else-is_in : goal.returns-else-is_in
returns-else-is_in g c = sends_equal (sym (flag_hidden c.args.bits c.args.flag (sym c.is_in.ensures ∙ c.if-is_in.false))) (sends_nothing _ _ _)
