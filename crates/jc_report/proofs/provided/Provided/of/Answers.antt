use Rattle.jc_report.proofs.reports.ProvidedByClass.{rows_of_classes}
use Rattle.jc_report.proofs.provided.Provided.of.Goals as goal

pub returns : goal.returns
returns g c = λ rises. rows_of_classes (g.C.ClassesLeft.left c.args.classes) rises
