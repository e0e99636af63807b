use Rattle.jc_text.proofs.Sending.{◌⟫◌}
use Rattle.jc_list.proofs.texts.write_index_with_reference.Goals as goal

pub returns : goal.returns
returns g c = c.write_index.ensures ⟫ c.write_reference.ensures
