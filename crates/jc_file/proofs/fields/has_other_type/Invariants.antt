use Rattle.std.proofs.Common.{◌≡◌}
use Rattle.std.specs.List.{list_any}
use Rattle.jc_view.specs.declared.attribute_kind.AttributeKind.TheVariants as kinds
use Rattle.jc_file.specs.FormatRules.{misfits}
use Rattle.jc_view.specs.Attributes.{values_of}
use Rattle.jc_file.specs.inside.Recognised.{any_of}
use Rattle.jc_file.proofs.fields.has_other_type.Given as goal

-- one of those that are left misfits if one of all does
abbrev pub invariant-loop-attribute : goal.invariant-loop-attribute
invariant-loop-attribute l = record {
  class : l.attribute-iterator.class ≡ l.fn.field.class;
  left : any_of l.fn.field.class kinds.ConstantValue (misfits l.fn.field.class l.descriptor) l.attribute-iterator.left ≡ list_any (misfits l.fn.field.class l.descriptor) (values_of l.fn.field.class l.fn.field.member.member);
}
