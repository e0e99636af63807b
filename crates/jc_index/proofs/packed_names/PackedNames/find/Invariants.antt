use Rattle.std.proofs.Common.{◌-◌}
use Rattle.jc_index.specs.inside.Places.{IsNarrowed}
use Rattle.jc_index.proofs.packed_names.PackedNames.find.Given as goal

abbrev pub invariant-loop-low : goal.invariant-loop-low
invariant-loop-low l = IsNarrowed l.self-inside.names l.name l.low l.high

abbrev pub decreases-loop-low : goal.decreases-loop-low
decreases-loop-low l = l.high - l.low
