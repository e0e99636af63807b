use Rattle.std.proofs.Common.{◌≡◌, ◌++◌, take}
use Rattle.jc_code.specs.inside.Found.{against}
use Rattle.jc_code.proofs.found.add_against.Given as goal

abbrev pub invariant-loop-fault : goal.invariant-loop-fault
invariant-loop-fault l = l.faults.items ≡ l.fn.faults.items ++ against l.rule (take l.fault-index l.found)
