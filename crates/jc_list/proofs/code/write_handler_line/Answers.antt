use Rattle.std.proofs.Common.{codes, decimal}
use Rattle.jc_text.proofs.Sending.{◌⟫◌}
use Rattle.jc_list.proofs.fronts.OneBehindAnother.{both_behind}
use Rattle.jc_list.proofs.code.write_handler_line.Goals as goal

pub returns : goal.returns
returns g c =
    let end = both_behind (codes " ") (decimal c.args.handler.end_pc) c.write_number_behind.ensures c.write_number.ensures in
    both_behind (codes " ") (decimal c.args.handler.handler_pc) end c.write_number-2.ensures ⟫ c.text.ensures ⟫ c.write_catch.ensures ⟫ c.text-2.ensures
