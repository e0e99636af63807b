use Rattle.jc_text.proofs.Sending.{◌⟫◌}
use Rattle.jc_list.proofs.texts.write_text_behind.Goals as goal

pub returns : goal.returns
returns g c = c.text.ensures ⟫ c.write_text.ensures
