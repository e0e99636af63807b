use Rattle.std.proofs.Common.{drop}
use Rattle.std.specs.List.{flat_map}
use Rattle.jc_text.proofs.Sending.{HasSent}
use Rattle.jc_list.specs.Texts.{flag_text, flags_text}
use Rattle.jc_list.proofs.texts.write_flags.Given as goal

abbrev pub invariant-loop-flag : goal.invariant-loop-flag
invariant-loop-flag g l =
    HasSent g.W.Output.written g.W.Output.failures l.fn.out l.out (flags_text l.flags l.bits) (flat_map (flag_text l.bits) (drop l.flag-index l.flags))
