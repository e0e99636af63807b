use Rattle.std.proofs.Common.{◌++◌, ap, codes}
use Rattle.jc_text.proofs.Sending.{◌⟫◌, sends_equal}
use Rattle.jc_view.specs.Lookups.{utf8_at}
use Rattle.jc_list.specs.Texts.{flags_text, shown_text}
use Rattle.jc_list.proofs.fronts.OneBehindAnother.{both_behind}
use Rattle.jc_list.proofs.members.write_member_line.Goals as goal

pub returns : goal.returns
returns g c =
    let k = c.args.member.now.class in
    let m = c.args.member.now.member.member in
    let named = both_behind (codes " ") (shown_text (utf8_at k m.name)) c.text.ensures (sends_equal (ap (λ t. codes " " ++ shown_text t) c.name.ensures) c.write_text_behind.ensures) in
    both_behind (codes " ") (shown_text (utf8_at k m.descriptor)) named (sends_equal (ap (λ t. codes " " ++ shown_text t) c.descriptor.ensures) c.write_text_behind-2.ensures)
    ⟫ c.text-2.ensures ⟫ sends_equal (ap (flags_text c.args.flags.now) c.flags.ensures) c.write_flags.ensures ⟫ c.text-3.ensures
