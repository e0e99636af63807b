use Rattle.jc_text.proofs.Sending.{◌⟫◌}
use Rattle.jc_list.proofs.class_lines.write_interface_line.Goals as goal

pub returns : goal.returns
returns g c = c.write_text_behind.ensures ⟫ c.text.ensures
