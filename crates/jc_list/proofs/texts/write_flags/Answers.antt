use Rattle.std.proofs.Common.{ap, refl}
use Rattle.std.proofs.lemmas.List.{drop_all, drop_more}
use Rattle.std.specs.List.{flat_map}
use Rattle.jc_text.specs.Numbers.{hexadecimal}
use Rattle.jc_text.proofs.Sending.{◌⟫◌, none_sent, part_sent, all_sent, sends_equal}
use Rattle.jc_list.specs.Texts.{flag_text}
use Rattle.jc_list.proofs.texts.write_flags.Goals as goal

pub loop-flag-init : goal.loop-flag-init
loop-flag-init g c = part_sent (none_sent _ _ _ _) refl (c.text.ensures ⟫ sends_equal (ap hexadecimal c.to_be_bytes.ensures) c.hexadecimal.ensures)

pub loop-flag-preserved : goal.loop-flag-preserved
loop-flag-preserved g c =
    part_sent c.loop-flag.invariant (ap (flat_map (flag_text c.args.bits)) (drop_more c.args.flags.now c.loop-flag.flag-index _ c.loop-flag-test.true)) c.write_flag.ensures

pub returns : goal.returns
returns g c = all_sent c.loop-flag.invariant (ap (flat_map (flag_text c.args.bits)) (drop_all c.loop-flag.flag-index c.args.flags.now c.loop-flag-test.false))
