use Rattle.std.proofs.Common.{◌≡◌, ◌++◌, drop}
use Rattle.std.specs.List.{flat_map}
use Rattle.jc_file.proofs.sets.FaultsAdded.{fault_if}
use Rattle.jc_file.proofs.broken.add_faults.Given as goal

-- the faults so far, and those of what is left, are all
abbrev pub invariant-loop-at : goal.invariant-loop-at
invariant-loop-at l = l.faults.items ++ flat_map (fault_if l.rule) (drop l.at-index l.broken) ≡ l.fn.faults.items ++ flat_map (fault_if l.rule) l.broken
