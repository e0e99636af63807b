use Rattle.std.proofs.Common.{◌≡◌, ◌<◌, ℕ, true, slice_index_or}
use Rattle.jc_numbered.specs.inside.Shown.{indexed_of}
use Rattle.jc_resolve.specs.inside.Unimplemented.{stays_number}
use Rattle.jc_resolve.proofs.unimplemented.all_stay.Given as goal

abbrev pub invariant-loop-number : goal.invariant-loop-number
invariant-loop-number l = (k : ℕ) → k < l.number-index → stays_number (indexed_of l.classes) l.node l.methods (slice_index_or l.numbers k 0) ≡ true
