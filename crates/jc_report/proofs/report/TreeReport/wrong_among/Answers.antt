use Rattle.std.proofs.Common.{◌∙◌, ap}
use Rattle.std.proofs.lemmas.Iterator.Consumers.{YieldsList-from_first}
use Rattle.std.specs.Slice.Iter.{iter_rest}
use Rattle.jc_report.specs.ClassLent.{class_lent}
use Rattle.jc_report.specs.FileRowView as lent
use Rattle.jc_report.proofs.reports.GoneOver.{copied_gives}
use Rattle.jc_report.proofs.report.TreeReport.wrong_among.Goals as goal

pub returns : goal.returns
returns c =
    let report = c.args.self.now in
    c.is_any_wrong.ensures report (record {
      by_path = copied_gives lent.row_lent c.copied.result c.files.result.now report.files (ap iter_rest c.copied.ensures.source ∙ c.iter.ensures.rest) c.files.ensures;
      by_name = (YieldsList-from_first class_lent (λ left. left) _ c.lent_classes.ensures.by_name).runs;
    })
