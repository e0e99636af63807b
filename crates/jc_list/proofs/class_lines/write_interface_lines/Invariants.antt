use Rattle.std.specs.List.{flat_map}
use Rattle.jc_text.proofs.Sending.{HasSent}
use Rattle.jc_view.specs.Lent.{interface_names}
use Rattle.jc_list.specs.ClassLines.{interface_line}
use Rattle.jc_list.proofs.lines.Interfaces.{interface_text}
use Rattle.jc_list.proofs.class_lines.write_interface_lines.Given as goal

abbrev pub invariant-loop-name : goal.invariant-loop-name
invariant-loop-name g l =
    HasSent g.W.Output.written g.W.Output.failures l.fn.out l.out (flat_map (interface_line l.class) l.class.interfaces) (flat_map interface_text (interface_names l.name-iterator))
