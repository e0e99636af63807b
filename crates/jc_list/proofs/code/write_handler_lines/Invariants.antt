use Rattle.std.specs.List.{flat_map}
use Rattle.jc_text.proofs.Sending.{HasSent}
use Rattle.jc_list.specs.AttributeLines.{handler_line}
use Rattle.jc_list.proofs.code.write_handler_lines.Given as goal

abbrev pub invariant-loop-handler : goal.invariant-loop-handler
invariant-loop-handler g l =
    HasSent g.W.Output.written g.W.Output.failures l.fn.out l.out (flat_map (handler_line l.code.class) l.code.code.handlers) (flat_map (handler_line l.code.class) l.handler-iterator)
