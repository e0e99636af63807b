use Rattle.std.proofs.Common.{◌≡◌, ◌≤◌, take}
use Rattle.jc_classes.specs.Names.{names_of}
use Rattle.jc_classes.specs.Worlds.{World}
use Rattle.jc_link.specs.Graphs.{IsIn}
use Rattle.jc_link.specs.Meters.{counted}
use Rattle.jc_linkage.specs.inside.Kept.{AllFresh, fresh_names}
use Rattle.jc_linkage.proofs.class_entry.make_fresh.Given as goal

abbrev pub invariant-loop-name : goal.invariant-loop-name
invariant-loop-name l = record {
  names : fresh_names l.fresh.items ≡ names_of (take l.name-index l.names);
  kept : (m : World) → IsIn m l.fn.maker → AllFresh m l.fresh.items;
  graph : l.maker ≡ l.fn.maker;
  made : l.meter.made ≡ counted l.fn.meter.made l.name-index;
  made_rise : l.fn.meter.made ≤ l.meter.made;
  asks : l.meter.asks ≡ l.fn.meter.asks;
}
