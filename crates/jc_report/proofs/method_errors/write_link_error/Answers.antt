use Rattle.jc_text.proofs.Sending.{◌⟫◌}
use Rattle.jc_report.proofs.method_errors.write_link_error.Goals as goal

pub returns : goal.returns
returns g c =
    c.write_method.ensures ⟫ c.text.ensures
    ⟫ (c.decimal.ensures ⟫ c.text-2.ensures ⟫ c.write_instruction.ensures ⟫ c.text-3.ensures ⟫ c.write_error.ensures ⟫ c.text-4.ensures)
