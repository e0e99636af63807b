use Rattle.std.proofs.Common.{◌∙◌, refl, ap}
use Rattle.jc_file.specs.inside.Broken.{places_in}
use Rattle.jc_file.specs.inside.RuleSets.{has}
use Rattle.jc_file.specs.inside.RuleTables.{breaks_in, interface_tests}
use Rattle.jc_file.proofs.sets.PlacesAdded.{item_more, items_begin}
use Rattle.jc_file.proofs.tables.add_interfaces.Goals as goal

pub loop-place-init : goal.loop-place-init
loop-place-init c = record {
  same = refl;
  places = λ rule.
      items_begin (λ index. breaks_in (interface_tests c.args.texts.now index) rule) _ _ c.args.texts.now.interfaces (places_in rule c.args.broken.now.items)
      (ap (λ i. i.count) c.into_iter-place-iterator.ensures.into_iter_gives ∙ c.enumerate-place-items.ensures.count)
      (ap (λ i. i.iter) c.into_iter-place-iterator.ensures.into_iter_gives ∙ c.enumerate-place-items.ensures.source ∙ c.interface_indexes.ensures.left ∙ ap (λ k. k.interfaces) c.class.ensures);
}

pub loop-place-preserved : goal.loop-place-preserved
loop-place-preserved c =
    let so_far = c.loop-place.invariant in
    record {
      same = c.interface_rules-rules.ensures.same ∙ so_far.same;
      places = λ rule.
          item_more (λ index. breaks_in (interface_tests c.args.texts.now index) rule) c.loop-place.place-iterator.count c.next.new.self.count c.in-Some.place (has c.interface_rules-rules.result rule) c.in-Some.index c.next.new.self.iter c.loop-place.place-iterator.iter (places_in rule c.loop-place.broken.items) _ _
          c.in-Some.ensures.steps.0 c.in-Some.ensures.steps.1 c.in-Some.ensures.steps.2
          (c.interface_rules-rules.ensures.rules rule ∙ ap (λ t. breaks_in (interface_tests t c.in-Some.index) rule) so_far.same)
          (c.in_ok-add_broken.ensures rule) (so_far.places rule);
    }
