use Rattle.std.proofs.Common.{[], ◌∙◌, ap, unwrap_or}
use Rattle.jc_text.proofs.Sending.{◌⟫◌, sends_equal}
use Rattle.jc_list.proofs.insns.write_insn_line.Goals as goal

pub returns : goal.returns
returns g c =
    let name = c.as_bytes.ensures.value ∙ ap (λ o. unwrap_or o []) c.mnemonic.ensures in
    c.write_number_behind.ensures ⟫ c.text.ensures ⟫ sends_equal c.wide.ensures c.text-2.ensures ⟫ sends_equal name c.text-3.ensures ⟫ c.write_operands.ensures ⟫ c.text-4.ensures
