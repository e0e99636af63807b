use Rattle.jc_text.proofs.Sending.{◌⟫◌}
use Rattle.jc_session.proofs.answer_text.write_edit_error.Goals as goal

pub returns : goal.returns
returns g c = c.text.ensures ⟫ rw c.code.ensures at c.decimal.ensures ⟫ c.text-2.ensures ⟫ rw c.name.ensures at c.text-3.ensures ⟫ c.text-4.ensures
