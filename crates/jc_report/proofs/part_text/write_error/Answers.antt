use Rattle.std.proofs.Common.{ap, codes, decimal, ◌∙◌}
use Rattle.jc_text.specs.Escapes.{shown}
use Rattle.jc_text.proofs.Sending.{◌⟫◌, sends_equal}
use Rattle.jc_list.proofs.fronts.OneBehindAnother.{both_behind}
use Rattle.jc_report.proofs.part_text.write_error.Goals as goal

pub returns : goal.returns
returns g c =
    let number = c.text.ensures ⟫ sends_equal (ap decimal c.code.ensures) c.decimal.ensures in
    both_behind (codes " ") (shown c.args.name.now) (number ⟫ c.text-2.ensures ⟫ sends_equal (c.as_bytes.ensures.value ∙ c.name.ensures) c.text-3.ensures) c.write_shown.ensures
