use Rattle.jc_text.proofs.Sending.{◌⟫◌, sends_equal}
use Rattle.jc_report.proofs.report_text.write_row.Goals as goal

pub returns : goal.returns
returns g c = sends_equal c.kind_word.ensures c.text.ensures ⟫ c.text-2.ensures ⟫ c.write_named.ensures ⟫ c.text-3.ensures
