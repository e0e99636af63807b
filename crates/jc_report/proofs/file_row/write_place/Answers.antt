use Rattle.jc_text.proofs.Sending.{◌⟫◌}
use Rattle.jc_report.proofs.file_row.write_place.Goals as goal

pub returns : goal.returns
returns g c = c.text.ensures ⟫ c.decimal.ensures ⟫ c.text-2.ensures
