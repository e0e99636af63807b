use Rattle.jc_text.proofs.Sending.{◌⟫◌}
use Rattle.jc_list.proofs.insns.write_counted_entry.Goals as goal

pub returns : goal.returns
returns g c = c.text.ensures ⟫ c.write_index.ensures ⟫ c.write_number.ensures ⟫ c.write_reference.ensures
