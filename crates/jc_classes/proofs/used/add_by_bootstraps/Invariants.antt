use Rattle.std.proofs.Common.{◌≡◌, ◌++◌}
use Rattle.std.specs.List.{flat_map}
use Rattle.jc_view.specs.Places.{attributes_in}
use Rattle.jc_classes.specs.inside.Using.{named_by_attribute}
use Rattle.jc_classes.proofs.used.add_by_bootstraps.Given as goal

-- with what the attributes that are left name
abbrev pub invariant-loop-attribute : goal.invariant-loop-attribute
invariant-loop-attribute l = record {
  class : l.attribute-iterator.class ≡ l.class;
  names : l.names.items ++ flat_map (named_by_attribute l.class) l.attribute-iterator.left ≡ l.fn.names.items ++ flat_map (named_by_attribute l.class) (attributes_in l.class);
}
