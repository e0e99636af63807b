use Rattle.std.proofs.Common.{◌≡◌, List, length}
use Rattle.jc_classes.specs.Names.{Name}
use Rattle.jc_link.specs.Meters.{counted}
use Rattle.jc_link.specs.Graphs.{IsIn}
use Rattle.jc_link.specs.Tables.{world}
use Rattle.jc_report.specs.inside.Made.{HaveParts, IsSplit}
use Rattle.jc_report.proofs.report.push_classes.Given as goal

-- the classes so far are made of the table, with a part each, and the others are left
abbrev pub invariant-loop-facts : goal.invariant-loop-facts
invariant-loop-facts l = record {
  split : IsSplit l.table l.classes.items l.facts-iterator;
  parts : (prefixes : List Name) → IsIn (world l.table prefixes) l.fn.maker → HaveParts l.table prefixes l.classes.items;
  maker : l.maker ≡ l.fn.maker;
  made : l.meter.made ≡ counted l.fn.meter.made (length l.classes.items);
  asks : l.meter.asks ≡ l.fn.meter.asks;
}
