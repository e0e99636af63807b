use Rattle.jc_report.proofs.reports.OneReport.{report_one}
use Rattle.jc_report.proofs.laws.report_is_one.Goals as goal

pub returns : goal.returns
returns c = λ f prefixes r s a b. report_one f prefixes r s a b
