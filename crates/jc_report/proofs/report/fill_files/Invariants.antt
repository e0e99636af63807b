use Rattle.std.proofs.Common.{◌≡◌, ◌≤◌}
use Rattle.jc_report.specs.Files.{Files}
use Rattle.jc_report.specs.Trees.{IsTree}
use Rattle.jc_report.proofs.trees.RowsOfFiles.{AreMade}
use Rattle.jc_report.proofs.report.fill_files.Given as goal

abbrev pub invariant-loop-path : goal.invariant-loop-path
invariant-loop-path l = record {
  made : l.meter.made ≡ l.fn.meter.made;
  asks : l.fn.meter.asks ≤ l.meter.asks;
  rows : (f : Files) → IsTree f l.tree → AreMade f l.files.items l.path-iterator;
}
