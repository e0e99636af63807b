use Rattle.jc_text.proofs.Sending.{◌⟫◌}
use Rattle.jc_session.proofs.program_error.write_with_path.Goals as goal

pub returns : goal.returns
returns g c = c.text.ensures ⟫ c.path.ensures ⟫ c.text-2.ensures
