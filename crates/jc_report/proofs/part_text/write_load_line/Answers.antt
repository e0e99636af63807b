use Rattle.jc_text.proofs.Sending.{◌⟫◌}
use Rattle.jc_report.proofs.part_text.write_load_line.Goals as goal

pub returns : goal.returns
returns g c = c.write_shown.ensures ⟫ c.text.ensures ⟫ c.write_load.ensures ⟫ c.text-2.ensures
