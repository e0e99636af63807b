use Rattle.jc_report.proofs.reports.ProvidedByClass.{rows_of_classes}
use Rattle.jc_report.proofs.report.provided_by_name.Goals as goal

pub returns : goal.returns
returns c = rows_of_classes c.args.classes.now
