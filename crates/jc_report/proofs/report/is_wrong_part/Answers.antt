use Rattle.std.proofs.Common.{rules}
use Rattle.jc_report.proofs.report.is_wrong_part.Goals as goal

pub returns-else-has_link : goal.returns-else-has_link
returns-else-has_link c = search rules
