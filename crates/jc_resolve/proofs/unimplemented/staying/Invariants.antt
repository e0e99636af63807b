use Rattle.std.proofs.Common.{◌≡◌, ◌++◌, take}
use Rattle.std.specs.List.{filter}
use Rattle.jc_numbered.specs.inside.Shown.{indexed_of}
use Rattle.jc_resolve.specs.inside.Unimplemented.{stays_number}
use Rattle.jc_resolve.proofs.unimplemented.staying.Given as goal

abbrev pub invariant-loop-number : goal.invariant-loop-number
invariant-loop-number l = l.list.items ≡ l.fn.added.items ++ filter (stays_number (indexed_of l.classes) l.node l.methods) (take l.number-index l.numbers)
