use Rattle.std.proofs.Common.{ap, codes}
use Rattle.std.specs.List.{flat_map}
use Rattle.jc_code.specs.InsnReading.{insns_of}
use Rattle.jc_text.proofs.Sending.{◌⟫◌}
use Rattle.jc_list.specs.InsnLines.{insn_lines}
use Rattle.jc_list.specs.AttributeLines.{attribute_line, code_lines, cut_line}
use Rattle.jc_list.proofs.fronts.OneBehindAnother.{both_behind, lists_behind, lists_equal}
use Rattle.jc_list.proofs.attributes.write_code_lines.Goals as goal

pub returns : goal.returns
unfolding code_lines
returns g c =
    let lent = c.args.code.now in
    let attributes = ap (λ i. flat_map (attribute_line i.class (codes "    ")) i.left) c.attributes.ensures in
    lists_behind _ c.write_inner_attributes.result _ _ (both_behind (flat_map (insn_lines lent.class) (insns_of lent.code.code)) (cut_line lent.code) c.write_code_line.ensures c.write_all_insn_lines.ensures ⟫ c.write_handler_lines.ensures)
    (lists_equal _ _ _ _ c.write_inner_attributes.result _ _ attributes c.write_inner_attributes.ensures)
