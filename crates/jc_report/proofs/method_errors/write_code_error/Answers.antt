use Rattle.std.proofs.Common.{ap, decimal}
use Rattle.jc_text.proofs.Sending.{◌⟫◌, sends_equal}
use Rattle.jc_report.proofs.method_errors.write_code_error.Goals as goal

pub returns : goal.returns
returns g c =
    c.write_method.ensures ⟫ c.text.ensures
    ⟫ (c.text-2.ensures ⟫ sends_equal (ap decimal c.number.ensures) c.decimal.ensures ⟫ c.text-3.ensures ⟫ c.decimal-2.ensures ⟫ c.text-4.ensures)
