use Rattle.std.proofs.Common.{◌∙◌, ap, sym}
use Rattle.std.proofs.lemmas.Iterator.Consumers.{YieldsList-from_first}
use Rattle.jc_report.specs.ClassLent.{class_lent}
use Rattle.jc_report.specs.ErrorsText.{is_wrong_among}
use Rattle.jc_report.specs.FileRowView as lent
use Rattle.jc_report.proofs.errors.AllErrors.{wrong_all}
use Rattle.jc_edits.proofs.report.Report.wrong.Goals as goal

pub returns : goal.returns
returns c =
    let made = c.classes.ensures in (
      made.0,
      made.1,
      (c.is_any_wrong.ensures made.0 (record {
        by_path = (YieldsList-from_first lent.row_lent (λ left. left) _ (c.files.ensures ∙ sym made.1.files)).runs;
        by_name = (YieldsList-from_first class_lent (λ left. left) _ made.2).runs;
      }))
          ∙ ap (λ a. is_wrong_among a made.0) c.all.ensures ∙ wrong_all made.0,
    )
