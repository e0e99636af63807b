use Rattle.std.proofs.Common.{◌≡◌, ◌≤◌, ℕ, List}
use Rattle.jc_classes.specs.Names.{Name}
use Rattle.jc_link.specs.Meters.{counted}
use Rattle.jc_link.specs.Tables.{world}
use Rattle.jc_link.specs.inside.GraphAsked.{IsAskedBy, asked_count}
use Rattle.jc_link.specs.inside.GraphShown.{AllReached, AreKept}
use Rattle.jc_link.proofs.reaches.Weights.{left}
use Rattle.jc_link.proofs.reached.ask_all.Given as goal

abbrev pub invariant-loop-alloc : goal.invariant-loop-alloc
invariant-loop-alloc l = record {
  asked : IsAskedBy (world l.table l.outside) l.numbers l.reached;
  kept : AreKept l.fn.numbers l.numbers;
  reached : (classes : List Name) → AllReached (world l.table l.outside) classes l.fn.numbers → AllReached (world l.table l.outside) classes l.numbers;
  asks : (count : ℕ) → l.fn.meter.asks ≡ counted count (asked_count l.fn.reached) → l.meter.asks ≡ counted count (asked_count l.reached);
  asks_rise : l.fn.meter.asks ≤ l.meter.asks;
  made : l.meter.made ≡ l.fn.meter.made;
}

abbrev pub decreases-loop-alloc : goal.decreases-loop-alloc
decreases-loop-alloc l = left l.table l.numbers (asked_count l.reached)
