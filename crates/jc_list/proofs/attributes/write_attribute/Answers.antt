use Rattle.std.proofs.Common.{◌∙◌, sym}
use Rattle.jc_list.proofs.fronts.OneBehindAnother.{lists_equal}
use Rattle.jc_list.proofs.told.AttributeTexts.{code_told, line_told}
use Rattle.jc_list.proofs.attributes.write_attribute.Goals as goal

pub returns-in-Some : goal.returns-in-Some
returns-in-Some g c =
    let told = code_told c.args.attribute.now c.args.indent.now c.in-Some.code (sym c.code.ensures ∙ c.in-Some.is) in
    lists_equal _ _ _ _ c.write_code_lines.result _ _ told c.write_code_lines.ensures

pub returns-in-None : goal.returns-in-None
returns-in-None g c =
    let told = line_told c.args.attribute.now c.args.indent.now (sym c.code.ensures ∙ c.in-None.is) in
    lists_equal _ _ _ _ c.write_attribute_line.result _ _ told c.write_attribute_line.ensures
