use Rattle.std.proofs.Common.{refl}
use Rattle.jc_text.proofs.Sending.{◌⟫◌}
use Rattle.jc_resolve.specs.Methods.{inherited_of}
use Rattle.jc_report.proofs.errors.FrontTold.{told_behind}
use Rattle.jc_report.proofs.inheritance_errors.write_unimplemented_error.Goals as goal

pub returns : goal.returns
returns g c =
    let key = (inherited_of c.args.method).key in
    told_behind _ _ c.write_front.ensures (c.text.ensures ⟫ c.write_member.ensures key refl refl ⟫ c.text-2.ensures)
