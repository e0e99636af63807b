use Rattle.std.proofs.Common.{◌∙◌, ◌++◌, ap}
use Rattle.std.specs.List.{flat_map}
use Rattle.jc_view.specs.AttributeReading.{with_inner}
use Rattle.jc_file.specs.inside.AttributePlaces.{places_among}
use Rattle.jc_file.specs.inside.Broken.{places_in}
use Rattle.jc_file.proofs.sets.AttributesAdded.{part_added}
use Rattle.jc_file.proofs.attributes.add_with_inner.Goals as goal

pub loop-attribute-preserved : goal.loop-attribute-preserved
loop-attribute-preserved c =
    let class = c.args.attributes.class in
    let so_far = c.loop-attribute.invariant in
    let steps = c.in-Some.ensures.steps in
    let a = c.in-Some.attribute in
    let same = steps.1.1 ∙ so_far.class in
    record {
      class = steps.0 ∙ so_far.class;
      places = λ rule.
          part_added rule class a.class (with_inner class a.attribute) (flat_map (with_inner class) c.next.new.self.left) (flat_map (with_inner class) c.loop-attribute.attribute-iterator.left)
          (places_in rule c.loop-attribute.broken.items) _ _
          same (ap (flat_map (with_inner class)) steps.1.0)
          (c.in_ok-add_of_one.ensures rule ∙ ap (λ k. places_in rule c.loop-attribute.broken.items ++ places_among rule a.class (with_inner k a.attribute)) same) (so_far.places rule);
    }
