use Rattle.jc_text.proofs.Sending.{◌⟫◌}
use Rattle.jc_list.specs.ClassLines.{class_lines}
use Rattle.jc_list.proofs.class_lines.write_class_lines.Goals as goal

pub returns : goal.returns
unfolding class_lines
returns g c =
    c.write_name_line.ensures ⟫ c.write_flags_line.ensures ⟫ c.write_version_line.ensures ⟫ c.write_super_line.ensures ⟫ c.write_interface_lines.ensures ⟫ c.write_count_line.ensures
