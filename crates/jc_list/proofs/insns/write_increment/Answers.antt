use Rattle.std.proofs.Common.{rules, w16}
use Rattle.jc_text.proofs.Sending.{◌⟫◌, sends_equal}
use Rattle.jc_list.proofs.lines.Signed.{same_blank}
use Rattle.jc_list.proofs.insns.write_increment.Goals as goal

pub returns : goal.returns
returns g c = c.write_number.ensures ⟫ sends_equal (same_blank w16 c.args.amount (search rules)) c.write_number-2.ensures
