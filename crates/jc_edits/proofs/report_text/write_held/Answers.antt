use Rattle.std.proofs.Common.{◌≡◌, ◌∙◌, ap, sym}
use Rattle.std.proofs.lemmas.Iterator.Consumers.{YieldsList-from_first}
use Rattle.jc_report.specs.ClassLent.{class_lent}
use Rattle.jc_report.specs.FileRowView as lent
use Rattle.jc_report.specs.Reports.{Report}
use Rattle.jc_report.specs.RowView.{row_lent}
use Rattle.jc_report.proofs.reports.OneReport.{report_one}
use Rattle.jc_edits.proofs.report_text.write_held.Goals as goal

pub returns : goal.returns
returns g c =
    let now = c.args.report.now in
    let made = c.classes.ensures in
    let again = c.classes-2.ensures in
    let same : again.0 ≡ made.0 = report_one now.files now.prefixes again.0 made.0 again.1 made.1 in (
      made.0,
      made.1,
      c.write_lists.ensures made.0 (record {
        files = (YieldsList-from_first lent.row_lent (λ left. left) _ (c.files.ensures ∙ sym made.1.files)).runs;
        classes = (YieldsList-from_first class_lent (λ left. left) _ made.2).runs;
        again = (YieldsList-from_first class_lent (λ left. left) _ (again.2 ∙ ap (λ (r : Report). r.classes) same)).runs;
        circular = made.1.circular;
        provided = (YieldsList-from_first row_lent (λ left. left) _ (c.provided.ensures made.0 made.1)).runs;
        required = (YieldsList-from_first row_lent (λ left. left) _ (c.required.ensures made.0 made.1)).runs;
      }),
    )
