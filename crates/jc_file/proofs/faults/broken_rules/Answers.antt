use Rattle.std.proofs.Common.{◌∙◌, [], ◌∷◌, ◌++◌, cond, refl, ap}
use Rattle.std.specs.List.{flat_map}
use Rattle.jc_view.specs.AttributeReading.{with_inner}
use Rattle.jc_view.specs.Places.{attributes_in, fields_in, member_attributes, methods_in}
use Rattle.jc_file.specs.inside.AttributePlaces.{places_of_members, places_with_inner}
use Rattle.jc_file.specs.inside.Broken.{places_in}
use Rattle.jc_file.specs.inside.RuleSets.{has}
use Rattle.jc_file.specs.inside.RuleTables.{breaks_in, class_tests, constant_places, field_places, interface_places, method_places}
use Rattle.jc_file.proofs.sets.AttributesAdded.{three_parts}
use Rattle.jc_file.proofs.sets.PlacesAdded.{in_both}
use Rattle.jc_file.proofs.sets.WholePlaces.{grown, only_cond, whole}
use Rattle.jc_file.proofs.faults.broken_rules.Goals as goal

pub returns : goal.returns
returns c = λ rule.
    let class = c.args.class.now in
    let texts = c.in_ok-texts.ensures in
    let constants = c.in_ok-add_constants.ensures.same ∙ texts in
    let interfaces = c.in_ok-add_interfaces.ensures.same ∙ constants in
    let fields = c.in_ok-add_fields.ensures.same ∙ interfaces in
    let first = c.in_ok-add_broken.ensures rule
    ∙ ap (λ items. places_in rule items ++ cond (has c.class_rules.result rule) (0 ∷ []) []) c.new-broken.ensures.items
    ∙ ap (λ b. cond b (0 ∷ []) []) (c.class_rules.ensures rule)
    ∙ only_cond (breaks_in (class_tests class) rule) in
    let second = grown _ _ _ _ _ (c.in_ok-add_constants.ensures.added rule) first (ap (λ k. constant_places k rule) texts) in
    let third = grown _ _ _ _ _ (c.in_ok-add_interfaces.ensures.added rule) second (ap (λ k. interface_places k rule) constants) in
    let fourth = grown _ _ _ _ _ (c.in_ok-add_fields.ensures.added rule) third (ap (λ k. field_places k rule) interfaces) in
    let fifth = grown _ _ _ _ _ (c.in_ok-add_methods.ensures.added rule) fourth (ap (λ k. method_places k rule) fields) in
    let sixth = grown _ _ _ _ _ (c.in_ok-add_repeats.ensures rule) fifth refl in
    let of_fields = grown _ _ _ _ _ (c.in_ok-add_fields.ensures.attributes rule) (ap (places_in rule) c.new-attributes.ensures.items) (ap (λ k. places_of_members (record { class = k; left = fields_in k }) rule) interfaces) in
    let of_methods = grown _ _ _ _ _ (c.in_ok-add_methods.ensures.attributes rule) of_fields (ap (λ k. places_of_members (record { class = k; left = methods_in k }) rule) fields) in
    let of_class = grown _ _ _ _ _ (c.in_ok-add_with_inner.ensures rule) of_methods (ap (λ l. places_with_inner l rule) c.attributes.ensures.left) in
    let all = of_class ∙ three_parts rule class (flat_map (with_inner class) (flat_map member_attributes (fields_in class))) (flat_map (with_inner class) (flat_map member_attributes (methods_in class))) (flat_map (with_inner class) (attributes_in class)) in
    let broken = c.add_repeats.new.broken.items in
    let attributes = c.add_with_inner.new.broken.items in
    let both = ap (places_in rule) (c.in_ok-extend_from_slice.ensures.items ∙ ap (λ l. broken ++ l) c.deref.ensures.value) ∙ in_both rule broken attributes in
    grown _ _ _ _ _ both sixth all ∙ whole class rule
