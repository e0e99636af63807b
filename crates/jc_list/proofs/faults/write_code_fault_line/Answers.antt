use Rattle.std.proofs.Common.{◌++◌, ap, codes, decimal}
use Rattle.jc_text.proofs.Sending.{◌⟫◌, sends_equal}
use Rattle.jc_list.proofs.fronts.OneBehindAnother.{both_behind}
use Rattle.jc_list.proofs.faults.write_code_fault_line.Goals as goal

pub returns : goal.returns
returns g c =
    let rule = sends_equal (ap (λ n. codes "code S" ++ decimal n) c.number.ensures) c.write_number_behind.ensures in
    let method = both_behind (codes " ") (decimal c.args.number) rule c.write_number.ensures in
    both_behind (codes " ") (decimal c.args.fault.place) method c.write_number-2.ensures ⟫ c.text.ensures
