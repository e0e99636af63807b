use Rattle.std.proofs.Common.{◌++◌, ap, codes, rules, w64}
use Rattle.jc_text.proofs.Sending.{◌⟫◌, sends_equal}
use Rattle.std.specs.Fmt.{signed_decimal}
use Rattle.jc_list.proofs.lines.Signed.{same_signed}
use Rattle.jc_list.proofs.fronts.OneBehindAnother.{both_behind}
use Rattle.jc_list.proofs.switches.write_switch_line.Goals as goal

pub returns : goal.returns
returns g c =
    let value = sends_equal (ap (λ text. codes "      " ++ text) (same_signed w64 c.args.value (search rules))) c.write_number_behind.ensures in
    let target = ap (λ text. codes ": " ++ text) (same_signed w64 c.args.target (search rules)) in
    both_behind (codes ": ") (signed_decimal c.args.target) value (sends_equal target c.write_number_behind-2.ensures) ⟫ c.text.ensures
