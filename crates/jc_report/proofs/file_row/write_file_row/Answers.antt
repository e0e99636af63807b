use Rattle.jc_text.proofs.Sending.{◌⟫◌}
use Rattle.jc_report.proofs.file_row.write_file_row.Goals as goal

pub returns : goal.returns
returns g c = c.path.ensures ⟫ c.text.ensures ⟫ c.write_state.ensures ⟫ c.text-2.ensures
