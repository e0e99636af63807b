use Rattle.std.proofs.Common.{◌+◌, ◌-◌}
use Rattle.std.specs.List.{flat_map, range_with_len}
use Rattle.jc_view.specs.ClassFile.{all_slots}
use Rattle.jc_text.proofs.Sending.{HasSent}
use Rattle.jc_list.specs.ConstantLines.{constant_lines, line_at}
use Rattle.jc_list.proofs.constants.write_constant_lines.Given as goal

abbrev pub invariant-loop-index : goal.invariant-loop-index
invariant-loop-index g l =
    HasSent g.W.Output.written g.W.Output.failures l.fn.out l.out (constant_lines l.class)
    (flat_map (line_at l.class) (range_with_len l.index (1 + all_slots l.class.constants - l.index)))
