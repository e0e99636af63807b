use Rattle.std.proofs.Common.{drop}
use Rattle.std.specs.List.{flat_map}
use Rattle.jc_text.proofs.Sending.{HasSent}
use Rattle.jc_list.specs.FaultLines.{code_fault_line}
use Rattle.jc_list.proofs.faults.write_method_faults.Given as goal

-- all lines but those of the faults that are left
abbrev pub invariant-loop-fault : goal.invariant-loop-fault
invariant-loop-fault g l =
    HasSent g.W.Output.written g.W.Output.failures l.fn.out l.out (flat_map (λ fault. code_fault_line (l.number, fault)) l.fault-items)
    (flat_map (λ fault. code_fault_line (l.number, fault)) (drop l.fault-index l.fault-items))
