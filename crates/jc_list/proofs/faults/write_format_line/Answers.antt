use Rattle.std.proofs.Common.{◌++◌, ap, codes, decimal}
use Rattle.jc_text.proofs.Sending.{◌⟫◌, sends_equal}
use Rattle.jc_list.proofs.fronts.OneBehindAnother.{both_behind}
use Rattle.jc_list.proofs.faults.write_format_line.Goals as goal

pub returns : goal.returns
returns g c =
    let rule = sends_equal (ap (λ n. codes "format F" ++ decimal n) c.number.ensures) c.write_number_behind.ensures in
    both_behind (codes " ") (decimal c.args.fault.place) rule c.write_number.ensures ⟫ c.text.ensures
