use Rattle.jc_text.proofs.Sending.{◌⟫◌}
use Rattle.jc_report.proofs.errors_text.write_front.Goals as goal

pub returns : goal.returns
returns g c = c.shown.ensures ⟫ c.text.ensures
