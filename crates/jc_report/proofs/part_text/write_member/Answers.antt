use Rattle.std.proofs.Common.{◌++◌, ap, codes, sym}
use Rattle.jc_text.specs.Escapes.{shown}
use Rattle.jc_text.proofs.Sending.{sends_equal}
use Rattle.jc_list.proofs.fronts.OneBehindAnother.{both_behind}
use Rattle.jc_report.proofs.part_text.write_member.Goals as goal

pub returns : goal.returns
returns g c = λ key n d.
    let named = both_behind (codes ".") (shown key.name) c.shown.ensures (sends_equal (ap (λ x. codes "." ++ shown x) (sym n)) c.write_shown.ensures) in
    both_behind (codes ":") (shown key.descriptor) named (sends_equal (ap (λ x. codes ":" ++ shown x) (sym d)) c.write_shown-2.ensures)
