use Rattle.jc_text.proofs.Sending.{◌⟫◌}
use Rattle.jc_list.proofs.constants.write_pair.Goals as goal

pub returns : goal.returns
returns g c = c.write_index.ensures ⟫ c.text.ensures ⟫ c.write_index-2.ensures
