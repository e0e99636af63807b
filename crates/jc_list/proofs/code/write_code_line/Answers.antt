use Rattle.std.proofs.Common.{◌++◌, ap, codes, decimal, length}
use Rattle.jc_text.proofs.Sending.{◌⟫◌, sends_equal}
use Rattle.jc_list.proofs.fronts.OneBehindAnother.{both_behind}
use Rattle.jc_list.proofs.code.write_code_line.Goals as goal

pub returns : goal.returns
returns g c =
    let code = c.args.code.now.code in
    let stack = sends_equal (ap (λ n. codes "  code stack " ++ decimal n) c.max_stack.ensures) c.write_number_behind.ensures in
    let locals = both_behind (codes " locals ") (decimal code.max_locals) stack (sends_equal (ap (λ n. codes " locals " ++ decimal n) c.max_locals.ensures) c.write_number_behind-2.ensures) in
    both_behind (codes " length ") (decimal (length code.code)) locals (sends_equal (ap (λ bytes. codes " length " ++ decimal (length bytes)) c.bytes.ensures.part) c.write_number_behind-3.ensures)
    ⟫ c.text.ensures
