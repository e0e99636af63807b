use Rattle.std.proofs.Common.{◌∙◌, ap}
use Rattle.std.proofs.lemmas.Iterator.Consumers.{YieldsList-from_first}
use Rattle.std.specs.Slice.Iter.{iter_rest}
use Rattle.jc_report.specs.ClassLent.{class_lent}
use Rattle.jc_report.specs.FileRowView as lent
use Rattle.jc_report.specs.Reports.{circular_names}
use Rattle.jc_report.specs.RowView.{row_lent}
use Rattle.jc_report.proofs.reports.GoneOver.{copied_gives}
use Rattle.jc_report.proofs.report_text.write_held.Goals as goal

pub returns : goal.returns
returns g c =
    let report = c.args.report.now in
    c.write_lists.ensures report (record {
      files = copied_gives lent.row_lent c.copied.result c.files.result.now report.files (ap iter_rest c.copied.ensures.source ∙ c.iter.ensures.rest) c.files.ensures;
      classes = (YieldsList-from_first class_lent (λ left. left) _ c.lent_classes.ensures.by_name).runs;
      again = (YieldsList-from_first class_lent (λ left. left) _ c.lent_classes-2.ensures.by_name).runs;
      circular = c.lent_classes.ensures.circular ∙ ap circular_names c.lent_classes.ensures.by_name;
      provided = (YieldsList-from_first row_lent (λ left. left) _ c.provided.ensures).runs;
      required = copied_gives row_lent c.copied-2.result c.required.result.now report.required (ap iter_rest c.copied-2.ensures.source ∙ c.iter-2.ensures.rest) c.required.ensures;
    })
