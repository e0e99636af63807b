use Rattle.jc_text.proofs.Sending.{◌⟫◌}
use Rattle.jc_list.proofs.insns.write_entry.Goals as goal

pub returns : goal.returns
returns g c = c.text.ensures ⟫ c.write_index_with_reference.ensures
