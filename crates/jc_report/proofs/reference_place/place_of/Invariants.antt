use Rattle.std.proofs.Common.{◌-◌}
use Rattle.jc_report.specs.inside.ReferencePlaces.{IsNarrowed}
use Rattle.jc_report.proofs.reference_place.place_of.Given as goal

abbrev pub invariant-loop-low : goal.invariant-loop-low
invariant-loop-low l = IsNarrowed l.facts.references l.index l.low l.high

abbrev pub decreases-loop-low : goal.decreases-loop-low
decreases-loop-low l = l.high - l.low
