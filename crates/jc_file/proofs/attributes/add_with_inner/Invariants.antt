use Rattle.std.proofs.Common.{◌≡◌, ◌++◌}
use Rattle.std.specs.List.{flat_map}
use Rattle.jc_view.specs.AttributeReading.{with_inner}
use Rattle.jc_file.specs.declared.fault.FormatRule.{FormatRule}
use Rattle.jc_file.specs.inside.AttributePlaces.{places_among}
use Rattle.jc_file.specs.inside.Broken.{places_in}
use Rattle.jc_file.proofs.attributes.add_with_inner.Given as goal

-- the places so far, and those of the attributes that are left, are all
abbrev pub invariant-loop-attribute : goal.invariant-loop-attribute
invariant-loop-attribute l =
    let c = l.fn.attributes.class in
    record {
      class : l.attribute-iterator.class ≡ c;
      places : (rule : FormatRule) → places_in rule l.broken.items ++ places_among rule c (flat_map (with_inner c) l.attribute-iterator.left)
          ≡ places_in rule l.fn.broken.items ++ places_among rule c (flat_map (with_inner c) l.fn.attributes.left);
    }
