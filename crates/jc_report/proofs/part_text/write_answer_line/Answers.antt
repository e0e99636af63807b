use Rattle.jc_text.proofs.Sending.{◌⟫◌}
use Rattle.jc_report.proofs.part_text.write_answer_line.Goals as goal

pub returns : goal.returns
returns g c = c.text.ensures ⟫ c.write_answered.ensures ⟫ c.text-2.ensures
