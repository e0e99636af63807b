use Rattle.std.proofs.Common.{◌∙◌, ap, rules, w32, w64}
use Rattle.jc_text.proofs.Sending.{◌⟫◌, sends_equal}
use Rattle.jc_list.specs.InsnLines.{blank_signed}
use Rattle.jc_list.proofs.lines.Signed.{same_blank}
use Rattle.jc_list.proofs.switches.write_table_switch.Goals as goal

pub returns : goal.returns
returns g c =
    sends_equal (same_blank w32 c.low.result (search rules) ∙ ap blank_signed c.low.ensures) c.write_number.ensures
    ⟫ sends_equal (same_blank w32 c.high.result (search rules) ∙ ap blank_signed c.high.ensures) c.write_number-2.ensures
    ⟫ c.text.ensures ⟫ sends_equal (same_blank w64 c.default.result (search rules) ∙ ap blank_signed c.default.ensures) c.write_number-3.ensures
