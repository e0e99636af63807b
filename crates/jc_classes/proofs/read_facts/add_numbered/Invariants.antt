use Rattle.std.proofs.Common.{◌≡◌, ◌++◌, map, take}
use Rattle.jc_code.specs.declared.code_fault.CodeFault.{CodeFault}
use Rattle.jc_classes.proofs.read_facts.add_numbered.Given as goal

abbrev pub invariant-loop-fault : goal.invariant-loop-fault
invariant-loop-fault l = l.numbered.items ≡ l.fn.numbered.items ++ map (λ (fault : CodeFault). (l.number, fault)) (take l.fault-index l.faults)
