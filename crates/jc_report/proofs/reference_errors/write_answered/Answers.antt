use Rattle.jc_text.proofs.Sending.{◌⟫◌}
use Rattle.jc_report.proofs.reference_errors.write_answered.Goals as goal

pub returns : goal.returns
returns g c =
    c.write_user.ensures ⟫ c.text.ensures ⟫ c.write_reference.ensures ⟫ c.text-2.ensures ⟫ c.write_answer.ensures ⟫ c.write_use_mark.ensures ⟫ c.text-3.ensures
