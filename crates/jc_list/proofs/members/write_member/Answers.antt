use Rattle.std.proofs.Common.{ap, codes}
use Rattle.std.specs.List.{flat_map}
use Rattle.jc_list.specs.AttributeLines.{attribute_lines}
use Rattle.jc_list.proofs.fronts.OneBehindAnother.{lists_behind, lists_equal}
use Rattle.jc_list.proofs.members.write_member.Goals as goal

pub returns : goal.returns
returns g c =
    lists_behind _ c.write_attributes.result _ _ c.write_member_line.ensures
    (lists_equal _ _ _ _ c.write_attributes.result _ _ (ap (λ i. flat_map (attribute_lines i.class (codes "  ")) i.left) c.attributes.ensures) c.write_attributes.ensures)
