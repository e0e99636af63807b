use Rattle.std.proofs.Common.{◌≡◌, ◌+◌, ◌+ℤ◌, pos, length}
use Rattle.jc_text.proofs.Sending.{HasSent}
use Rattle.jc_list.specs.InsnLines.{target_lines}
use Rattle.jc_list.proofs.switches.write_target_lines.Given as goal

abbrev pub invariant-loop-index : goal.invariant-loop-index
invariant-loop-index g l =
    (l.index + length l.targets.left ≡ length l.switch.targets.left)
    × HasSent g.W.Output.written g.W.Output.failures l.fn.out l.out (target_lines l.switch.low l.switch.targets.left) (target_lines (l.switch.low +ℤ pos l.index) l.targets.left)
