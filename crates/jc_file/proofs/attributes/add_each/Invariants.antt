use Rattle.std.proofs.Common.{◌≡◌, ◌++◌}
use Rattle.jc_file.specs.declared.fault.FormatRule.{FormatRule}
use Rattle.jc_file.specs.inside.AttributePlaces.{places_among}
use Rattle.jc_file.specs.inside.Broken.{places_in}
use Rattle.jc_file.proofs.attributes.add_each.Given as goal

-- the places so far, and those of the attributes that are left, are all
abbrev pub invariant-loop-attribute : goal.invariant-loop-attribute
invariant-loop-attribute l = record {
  class : l.attribute-iterator.class ≡ l.fn.attributes.class;
  places : (rule : FormatRule) → places_in rule l.broken.items ++ places_among rule l.fn.attributes.class l.attribute-iterator.left
      ≡ places_in rule l.fn.broken.items ++ places_among rule l.fn.attributes.class l.fn.attributes.left;
}
