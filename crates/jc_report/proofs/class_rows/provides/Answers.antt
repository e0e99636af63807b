use Rattle.std.proofs.Common.{rules}
use Rattle.jc_report.proofs.class_rows.provides.Goals as goal

pub returns-then-is_loaded : goal.returns-then-is_loaded
returns-then-is_loaded c = search rules
