use Rattle.std.proofs.Common.{rules}
use Rattle.jc_report.proofs.tree.Tree.put_winner.Goals as goal

pub returns-then-wins-clause-classes : goal.returns-then-wins-clause-classes
returns-then-wins-clause-classes c = search rules

pub returns-else-wins-clause-classes : goal.returns-else-wins-clause-classes
returns-else-wins-clause-classes c = search rules
