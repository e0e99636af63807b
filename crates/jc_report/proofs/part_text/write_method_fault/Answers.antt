use Rattle.jc_text.proofs.Sending.{◌⟫◌}
use Rattle.jc_report.proofs.part_text.write_method_fault.Goals as goal

pub returns : goal.returns
returns g c = c.text.ensures ⟫ c.write_code_fault_line.ensures
