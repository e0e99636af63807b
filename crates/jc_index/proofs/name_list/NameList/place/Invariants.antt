use Rattle.std.proofs.Common.{◌-◌}
use Rattle.jc_classes.specs.Names.{names_of}
use Rattle.jc_index.specs.inside.Places.{IsNarrowed}
use Rattle.jc_index.proofs.name_list.NameList.place.Given as goal

abbrev pub invariant-loop-low : goal.invariant-loop-low
invariant-loop-low l = IsNarrowed (names_of l.self-inside.names.items) l.name l.low l.high

abbrev pub decreases-loop-low : goal.decreases-loop-low
decreases-loop-low l = l.high - l.low
