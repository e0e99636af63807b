use Rattle.jc_text.proofs.Sending.{◌⟫◌}
use Rattle.jc_list.proofs.insns.write_insn_lines.Goals as goal

pub returns : goal.returns
returns g c = c.write_insn_line.ensures ⟫ c.write_switch_lines.ensures
