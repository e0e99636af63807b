use Rattle.std.proofs.Common.{drop}
use Rattle.std.specs.List.{flat_map}
use Rattle.jc_text.proofs.Sending.{HasSent}
use Rattle.jc_report.specs.PartText.{format_fault_line}
use Rattle.jc_report.proofs.part_text.write_format_faults.Given as goal

-- all lines but those of the faults that are left
abbrev pub invariant-loop-fault : goal.invariant-loop-fault
invariant-loop-fault g l = HasSent g.W.Output.written g.W.Output.failures l.fn.out l.out (flat_map format_fault_line l.faults) (flat_map format_fault_line (drop l.fault-index l.faults))
