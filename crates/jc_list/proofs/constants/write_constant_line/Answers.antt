use Rattle.std.proofs.Common.{◌∙◌, ap}
use Rattle.jc_view.specs.ConstantPool.{kind_name}
use Rattle.jc_text.proofs.Sending.{◌⟫◌, sends_equal}
use Rattle.jc_list.proofs.constants.write_constant_line.Goals as goal

pub returns : goal.returns
returns g c =
    let name = c.as_bytes.ensures.value ∙ c.name.ensures ∙ ap kind_name c.kind.ensures in
    c.write_number_behind.ensures ⟫ c.text.ensures ⟫ sends_equal name c.text-2.ensures ⟫ c.text-3.ensures ⟫ c.write_constant.ensures ⟫ c.text-4.ensures
