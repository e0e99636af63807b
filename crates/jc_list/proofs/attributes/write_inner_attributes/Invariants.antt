use Rattle.std.proofs.Common.{◌≡◌, codes}
use Rattle.std.specs.List.{flat_map}
use Rattle.jc_text.proofs.Sending.{HasSent}
use Rattle.jc_list.specs.AttributeLines.{attribute_line}
use Rattle.jc_list.proofs.attributes.write_inner_attributes.Given as goal

-- all lines but those of the attributes that are left
abbrev pub invariant-loop-attribute : goal.invariant-loop-attribute
invariant-loop-attribute g l = record {
  class : l.attribute-iterator.class ≡ l.fn.attributes.class;
  sent : HasSent g.W.Output.written g.W.Output.failures l.fn.out l.out (flat_map (attribute_line l.fn.attributes.class (codes "    ")) l.fn.attributes.left) (flat_map (attribute_line l.fn.attributes.class (codes "    ")) l.attribute-iterator.left);
}
