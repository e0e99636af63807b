use Rattle.std.proofs.Common.{◌≡◌, ◌++◌}
use Rattle.std.specs.List.{flat_map}
use Rattle.jc_view.specs.declared.attribute_kind.AttributeKind.TheVariants as kinds
use Rattle.jc_view.specs.AttributeReading.{with_inner}
use Rattle.jc_view.specs.Attributes.{codes_of, exceptions_of}
use Rattle.jc_file.specs.declared.fault.FormatRule.{FormatRule}
use Rattle.jc_file.specs.inside.AttributePlaces.{places_among, places_of_member}
use Rattle.jc_file.specs.inside.Broken.{places_in}
use Rattle.jc_file.proofs.sets.OfKinds.{AreLeft, are_bad_exceptions, is_bad_code}
use Rattle.jc_file.proofs.method_attributes.add_attributes_of.Given as goal

-- those so far, and those of the attributes that are left, are all
abbrev pub invariant-loop-attribute : goal.invariant-loop-attribute
invariant-loop-attribute l =
    let c = l.fn.method.class in
    let m = l.fn.method.member.member in
    let left = l.attribute-iterator.left in
    record {
      class : l.attribute-iterator.class ≡ c;
      codes : AreLeft c kinds.Code is_bad_code l.codes left (codes_of c m);
      exceptions : AreLeft c kinds.Exceptions (are_bad_exceptions c) l.exceptions left (exceptions_of c m);
      places : (rule : FormatRule) → places_in rule l.broken.items ++ places_among rule c (flat_map (with_inner c) left)
          ≡ places_in rule l.fn.broken.items ++ places_of_member l.fn.method rule;
    }
