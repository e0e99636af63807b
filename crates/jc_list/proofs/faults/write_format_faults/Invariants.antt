use Rattle.std.proofs.Common.{drop}
use Rattle.std.specs.List.{flat_map}
use Rattle.jc_text.proofs.Sending.{HasSent}
use Rattle.jc_list.specs.FaultLines.{format_line}
use Rattle.jc_list.proofs.faults.write_format_faults.Given as goal

-- all lines but those of the faults that are left
abbrev pub invariant-loop-fault : goal.invariant-loop-fault
invariant-loop-fault g l = HasSent g.W.Output.written g.W.Output.failures l.fn.out l.out (flat_map format_line l.fault-items) (flat_map format_line (drop l.fault-index l.fault-items))
