use Rattle.std.proofs.Common.{ap}
use Rattle.std.proofs.lemmas.List.{drop_all, drop_more}
use Rattle.jc_text.specs.Numbers.{hexadecimal}
use Rattle.jc_text.proofs.Sending.{none_sent, part_sent, all_sent}
use Rattle.jc_text.proofs.text_writer.TextWriter.hexadecimal.Goals as goal

pub loop-byte-init : goal.loop-byte-init
loop-byte-init g c = none_sent _ _ _ _

pub loop-byte-preserved : goal.loop-byte-preserved
loop-byte-preserved g c =
    let text = rw (c.hex_digit.ensures, c.hex_digit-in-loop-byte.ensures) at c.text.ensures in
    part_sent c.loop-byte.invariant (ap hexadecimal (drop_more c.args.bytes.now c.loop-byte.byte-index 0 c.loop-byte-test.true)) text

pub returns : goal.returns
returns g c = all_sent c.loop-byte.invariant (ap hexadecimal (drop_all c.loop-byte.byte-index c.args.bytes.now c.loop-byte-test.false))
