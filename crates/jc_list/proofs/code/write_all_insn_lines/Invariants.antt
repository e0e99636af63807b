use Rattle.std.proofs.Common.{◌≡◌}
use Rattle.std.specs.List.{flat_map}
use Rattle.jc_code.specs.InsnReading.{insns_of, end_of}
use Rattle.jc_text.proofs.Sending.{HasSent}
use Rattle.jc_list.specs.InsnLines.{insn_lines}
use Rattle.jc_list.proofs.code.write_all_insn_lines.Given as goal

abbrev pub invariant-loop-place : goal.invariant-loop-place
invariant-loop-place g l =
    (l.insns.end ≡ end_of l.code.code.code)
    × HasSent g.W.Output.written g.W.Output.failures l.fn.out l.out (flat_map (insn_lines l.code.class) (insns_of l.code.code.code)) (flat_map (insn_lines l.code.class) l.insns.left)
