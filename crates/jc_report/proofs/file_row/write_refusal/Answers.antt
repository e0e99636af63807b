use Rattle.jc_text.proofs.Sending.{◌⟫◌}
use Rattle.jc_report.proofs.file_row.write_refusal.Goals as goal

pub returns : goal.returns
returns g c = rw c.code.ensures at c.decimal.ensures ⟫ c.text.ensures ⟫ c.write_refusal_name.ensures
