use Rattle.std.proofs.Common.{◌++◌, ap, arith, codes, decimal}
use Rattle.jc_text.proofs.Sending.{◌⟫◌, sends_equal}
use Rattle.jc_list.proofs.class_lines.write_count_line.Goals as goal

pub returns : goal.returns
returns g c = sends_equal (ap (λ n. codes "constants " ++ decimal n) (omega arith)) c.write_number_behind.ensures ⟫ c.text.ensures
