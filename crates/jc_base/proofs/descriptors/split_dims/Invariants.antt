use Rattle.std.proofs.Common.{◌≡◌, ◌≤◌, ◌-◌, ◌++◌, length, drop, replicate}
use Rattle.jc_base.proofs.descriptors.split_dims.Given as goal

abbrev pub invariant-loop-dims : goal.invariant-loop-dims
invariant-loop-dims l = (l.dims ≤ length l.text) × (l.text ≡ replicate l.dims 91 ++ drop l.dims l.text)

abbrev pub decreases-loop-dims : goal.decreases-loop-dims
decreases-loop-dims l = length l.text - l.dims
