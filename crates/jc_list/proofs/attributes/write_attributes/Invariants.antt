use Rattle.std.proofs.Common.{◌≡◌}
use Rattle.std.specs.List.{flat_map}
use Rattle.jc_text.proofs.Sending.{HasSent}
use Rattle.jc_list.specs.AttributeLines.{attribute_lines}
use Rattle.jc_list.proofs.attributes.write_attributes.Given as goal

-- all lines but those of the attributes that are left
abbrev pub invariant-loop-attribute : goal.invariant-loop-attribute
invariant-loop-attribute g l = record {
  class : l.attribute-iterator.class ≡ l.fn.attributes.class;
  sent : HasSent g.W.Output.written g.W.Output.failures l.fn.out l.out (flat_map (attribute_lines l.fn.attributes.class l.indent) l.fn.attributes.left) (flat_map (attribute_lines l.fn.attributes.class l.indent) l.attribute-iterator.left);
}
