use Rattle.jc_text.proofs.Sending.{◌⟫◌}
use Rattle.jc_list.proofs.constants.write_numbered.Goals as goal

pub returns : goal.returns
returns g c = c.decimal.ensures ⟫ c.text.ensures ⟫ c.write_index.ensures
