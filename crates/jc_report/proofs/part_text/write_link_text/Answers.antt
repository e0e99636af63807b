use Rattle.jc_text.proofs.Sending.{◌⟫◌}
use Rattle.jc_report.proofs.part_text.write_link_text.Goals as goal

pub returns : goal.returns
returns g c = c.text.ensures ⟫ c.decimal.ensures ⟫ c.text-2.ensures ⟫ c.decimal-2.ensures ⟫ c.text-3.ensures ⟫ c.write_error.ensures ⟫ c.text-4.ensures
