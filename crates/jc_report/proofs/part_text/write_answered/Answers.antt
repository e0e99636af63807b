use Rattle.jc_text.proofs.Sending.{◌⟫◌}
use Rattle.jc_report.proofs.part_text.write_answered.Goals as goal

pub returns : goal.returns
returns g c = c.text.ensures ⟫ c.decimal.ensures ⟫ c.text-2.ensures ⟫ c.write_reference.ensures ⟫ c.text-3.ensures ⟫ c.write_answer.ensures
