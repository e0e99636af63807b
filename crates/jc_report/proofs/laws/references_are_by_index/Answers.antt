use Rattle.jc_report.proofs.reports.ReferencesByIndex.{references_by_index}
use Rattle.jc_report.proofs.laws.references_are_by_index.Goals as goal

pub returns : goal.returns
returns c = λ f name class is. references_by_index f name class is
