use Rattle.std.proofs.Common.{rules}
use Rattle.jc_view.proofs.view.class_name.Goals as goal

pub returns-then-is_class_name-clause-some : goal.returns-then-is_class_name-clause-some
returns-then-is_class_name-clause-some c = search rules

pub returns-else-is_class_name-clause-none : goal.returns-else-is_class_name-clause-none
returns-else-is_class_name-clause-none c = search rules
