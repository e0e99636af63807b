use Rattle.std.proofs.Common.{ap}
use Rattle.std.specs.Prelude.{decimal}
use Rattle.jc_text.proofs.Sending.{◌⟫◌, sends_equal}
use Rattle.jc_session.proofs.program_error.write_refused.Goals as goal

pub returns : goal.returns
returns g c =
    let code = sends_equal (ap decimal c.code.ensures) c.decimal.ensures in
    let name = sends_equal c.name.ensures c.text-3.ensures in
    c.text.ensures ⟫ code ⟫ c.text-2.ensures ⟫ name ⟫ c.text-4.ensures ⟫ c.path.ensures ⟫ c.text-5.ensures
