use Rattle.jc_text.proofs.Sending.{◌⟫◌, sends_equal}
use Rattle.jc_report.proofs.method_errors.write_use.Goals as goal

pub returns : goal.returns
returns g c = sends_equal c.mnemonic.ensures c.text.ensures ⟫ c.text-2.ensures ⟫ c.write_reference_at.ensures
