use Rattle.std.proofs.Common.{◌≡◌, ◌∙◌, ◌+◌, ◌++◌, refl, ap, subst}
use Rattle.std.specs.Iterator.Adapters.{enumerate_count, enumerate_source}
use Rattle.jc_view.specs.declared.attribute_kind.Holder.TheVariants as holders
use Rattle.jc_view.specs.Places.{fields_in, fields_place}
use Rattle.jc_file.proofs.kinds.PlacedMembers.{AreOf, are_of_all, members_of, members_of_all}
use Rattle.jc_file.specs.inside.AttributePlaces.{places_with_inner}
use Rattle.jc_file.specs.inside.Broken.{places_in}
use Rattle.jc_file.specs.inside.RuleSets.{has}
use Rattle.jc_file.specs.inside.RuleTables.{breaks_in, field_tests}
use Rattle.jc_file.proofs.sets.AttributesAdded.{member_added}
use Rattle.jc_file.proofs.sets.PlacesAdded.{item_more, items_begin}
use Rattle.jc_file.proofs.tables.add_fields.Goals as goal

pub loop-place-init : goal.loop-place-init
loop-place-init c =
    let class = c.args.texts.now in
    let all : enumerate_source c.into_iter-place-iterator.result ≡ record { class = class; left = fields_in class } = cc in
    let first : enumerate_count c.into_iter-place-iterator.result ≡ 0 = cc in
    rw (all, first) (record {
      same = refl;
      class = refl;
      holders = are_of_all holders.Field (fields_place class + 2) class.fields;
      places = λ rule.
          items_begin (λ m. breaks_in (field_tests class m) rule) 0 (members_of (fields_in class)) class.fields (places_in rule c.args.broken.now.items)
          refl (members_of_all holders.Field (fields_place class + 2) class.fields);
      attributes = λ rule. refl;
    })

pub loop-place-preserved : goal.loop-place-preserved
loop-place-preserved c =
    let class = c.args.texts.now in
    let so_far = c.loop-place.invariant in
    let it = c.loop-place.place-iterator in
    let on = c.next.new.self in
    let steps = c.in-Some.ensures.steps in
    let is_left = steps.0.1.0 in
    record {
      same = c.field_rules-rules.ensures.same ∙ so_far.same;
      class = steps.0.0 ∙ so_far.class;
      holders = (subst (AreOf holders.Field) is_left so_far.holders).1;
      places = λ rule.
          item_more (λ m. breaks_in (field_tests class m) rule) (enumerate_count it) (enumerate_count on) c.in-Some.place (has c.field_rules-rules.result rule) c.in-Some.field.member.member
          (members_of (enumerate_source on).left) (members_of (enumerate_source it).left) (places_in rule c.loop-place.broken.items) _ _
          (ap members_of is_left) steps.1 steps.2
          (c.field_rules-rules.ensures.rules rule ∙ ap (λ t. breaks_in (field_tests t c.in-Some.field.member.member) rule) so_far.same)
          (c.in_ok-add_broken.ensures rule) (so_far.places rule);
      attributes = λ rule.
          member_added rule class c.in-Some.field.class c.in-Some.field.member (enumerate_source on).left (enumerate_source it).left (places_in rule c.loop-place.attributes.items) _ _
          (steps.0.1.1 ∙ so_far.class) is_left (c.in_ok-add_with_inner.ensures rule ∙ ap (λ l. places_in rule c.loop-place.attributes.items ++ places_with_inner l rule) c.attributes.ensures) (so_far.attributes rule);
    }
