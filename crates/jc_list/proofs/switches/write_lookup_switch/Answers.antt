use Rattle.std.proofs.Common.{◌∙◌, ap, length, rules, w64}
use Rattle.jc_text.proofs.Sending.{◌⟫◌, sends_equal}
use Rattle.jc_list.specs.InsnLines.{blank_decimal, blank_signed}
use Rattle.jc_list.proofs.lines.Signed.{same_blank}
use Rattle.jc_list.proofs.switches.write_lookup_switch.Goals as goal

pub returns : goal.returns
returns g c =
    let count = c.len.ensures ∙ ap (λ cases. length cases.left) c.cases.ensures in
    sends_equal (ap blank_decimal count) c.write_number.ensures
    ⟫ c.text.ensures ⟫ sends_equal (same_blank w64 c.default.result (search rules) ∙ ap blank_signed c.default.ensures) c.write_number-2.ensures
