use Rattle.std.proofs.Common.{length, ◌-◌, ◌≤◌, take}
use Rattle.jc_base.specs.ModifiedUtf8.{IsWellSpelled}
use Rattle.jc_base.proofs.modified_utf8.check_units.Given as goal

abbrev pub invariant-loop-place : goal.invariant-loop-place
invariant-loop-place l = (l.place ≤ length l.text) × IsWellSpelled (take l.place l.text)

abbrev pub decreases-loop-place : goal.decreases-loop-place
decreases-loop-place l = length l.text - l.place
