use Rattle.jc_text.proofs.Sending.{◌⟫◌}
use Rattle.jc_report.proofs.file_row.write_shadowed.Goals as goal

pub returns : goal.returns
returns g c = c.write_shown.ensures ⟫ c.text.ensures ⟫ c.path.ensures
