-- The places of attributes that break a rule.
use Rattle.std.specs.Prelude.{ℕ, List, filter, map}
use Rattle.std.specs.List.{flat_map}
use Rattle.jc_view.specs.AttributeReading.{with_inner}
use Rattle.jc_view.specs.ClassFile.{ClassFile}
use Rattle.jc_view.specs.Lent.{AttributesLeft, LentAttribute, LentMember, MembersLeft}
use Rattle.jc_view.specs.Places.{PlacedAttribute, member_attributes}
use Rattle.jc_file.specs.declared.fault.FormatRule.{FormatRule}
use Rattle.jc_file.specs.inside.RuleTables.{attribute_tests, breaks_in}

abbrev pub places_among : FormatRule → ClassFile → List PlacedAttribute → List ℕ
places_among rule c attributes = map (λ a. a.place) (filter (λ a. breaks_in (attribute_tests c a) rule) attributes)

-- ---- the places of attributes, and of the attributes inside them

abbrev pub places_of_one : LentAttribute → FormatRule → List ℕ
places_of_one lent rule = places_among rule lent.class (with_inner lent.class lent.attribute)

-- the places of the attributes that are left
abbrev pub places_with_inner : AttributesLeft → FormatRule → List ℕ
places_with_inner attributes rule = places_among rule attributes.class (flat_map (with_inner attributes.class) attributes.left)

-- the places of the attributes of a member
abbrev pub places_of_member : LentMember → FormatRule → List ℕ
places_of_member lent rule = places_among rule lent.class (flat_map (with_inner lent.class) (member_attributes lent.member))

-- the places of the attributes of the members that are left
abbrev pub places_of_members : MembersLeft → FormatRule → List ℕ
places_of_members members rule =
    places_among rule members.class (flat_map (with_inner members.class) (flat_map member_attributes members.left))
