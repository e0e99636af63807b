use Rattle.std.specs.List.{flat_map}
use Rattle.jc_text.proofs.Sending.{HasSent}
use Rattle.jc_list.specs.InsnLines.{case_line}
use Rattle.jc_list.proofs.switches.write_case_lines.Given as goal

abbrev pub invariant-loop-case : goal.invariant-loop-case
invariant-loop-case g l =
    HasSent g.W.Output.written g.W.Output.failures l.fn.out l.out (flat_map case_line l.switch.cases.left) (flat_map case_line l.case-iterator.left)
