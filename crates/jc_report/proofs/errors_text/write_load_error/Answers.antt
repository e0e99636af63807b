use Rattle.std.proofs.Common.{◌++◌, ◌∙◌, ap, codes, sym}
use Rattle.jc_resolve.specs.Answers.{loading_of}
use Rattle.jc_text.proofs.Sending.{◌⟫◌, sends_equal, sends_nothing}
use Rattle.jc_report.specs.ErrorsText.{load_error, of_class}
use Rattle.jc_report.specs.PartText.{error_text}
use Rattle.jc_report.proofs.errors.FrontTold.{told_behind}
use Rattle.jc_report.proofs.errors.NoErrors.{no_load_error}
use Rattle.jc_report.proofs.errors_text.write_load_error.Goals as goal

pub returns-in-Fails : goal.returns-in-Fails
returns-in-Fails g c =
    let name = c.args.name.now in
    sends_equal (ap (λ fault. of_class name (error_text c.in-Fails.error fault ++ codes "\n")) c.as_slice.ensures.value ∙ ap (λ l. load_error name (loading_of l)) (sym c.in-Fails.is))
    (told_behind name _ c.write_front.ensures (c.write_error.ensures ⟫ c.text.ensures))

pub returns-in_default : goal.returns-in_default
returns-in_default g c = sends_equal (sym (no_load_error c.args.name.now _ c.in_default.not-Fails)) (sends_nothing _ _ _)
