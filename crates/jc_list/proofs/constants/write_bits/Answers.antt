use Rattle.jc_text.proofs.Sending.{◌⟫◌}
use Rattle.jc_list.proofs.constants.write_bits.Goals as goal

pub returns : goal.returns
returns g c = c.text.ensures ⟫ c.hexadecimal.ensures
