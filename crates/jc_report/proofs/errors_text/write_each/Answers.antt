use Rattle.std.proofs.Common.{◌∙◌, ap}
use Rattle.std.specs.List.{flat_map}
use Rattle.jc_text.proofs.Sending.{◌⟫◌, sends_equal}
use Rattle.jc_report.specs.ErrorsText.{classes_errors, errors_text, file_error, asked_lent}
use Rattle.jc_report.proofs.errors_text.write_each.Goals as goal

pub returns : goal.returns
unfolding errors_text
returns g c =
    let asked = asked_lent c.args.asked in
    sends_equal (ap (flat_map (file_error asked)) (c.files.ensures ∙ ap (λ r. r.files) c.report-report.ensures)) c.write_files.ensures
    ⟫ sends_equal
    (ap (λ cs. classes_errors asked cs c.inheritance.result.now c.unimplemented.result.now)
    (c.classes.ensures.by_name ∙ ap (λ r. r.classes) c.report-report.ensures)
    ∙ ap (λ es. classes_errors asked c.args.errors.now.report.classes es c.unimplemented.result.now) c.inheritance.ensures
    ∙ ap (classes_errors asked c.args.errors.now.report.classes c.args.errors.now.inheritance) c.unimplemented.ensures)
    c.write_classes.ensures
