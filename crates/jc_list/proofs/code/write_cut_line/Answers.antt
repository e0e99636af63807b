use Rattle.jc_text.proofs.Sending.{◌⟫◌}
use Rattle.jc_list.proofs.code.write_cut_line.Goals as goal

pub returns : goal.returns
returns g c = c.write_number_behind.ensures ⟫ c.text.ensures
