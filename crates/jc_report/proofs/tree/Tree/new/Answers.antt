use Rattle.jc_report.proofs.trees.OneMoreFile.{no_files}
use Rattle.jc_report.proofs.tree.Tree.new.Goals as goal

pub returns-clause-empty : goal.returns-clause-empty
returns-clause-empty c = no_files _ c.new-2.ensures c.in_ok-table.ensures.empty
