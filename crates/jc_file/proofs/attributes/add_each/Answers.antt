use Rattle.std.proofs.Common.{◌∙◌, [], ◌∷◌}
use Rattle.jc_file.specs.inside.Broken.{places_in}
use Rattle.jc_file.proofs.sets.AttributesAdded.{part_added}
use Rattle.jc_file.proofs.attributes.add_each.Goals as goal

pub loop-attribute-preserved : goal.loop-attribute-preserved
loop-attribute-preserved c =
    let class = c.args.attributes.class in
    let so_far = c.loop-attribute.invariant in
    let steps = c.in-Some.ensures.steps in
    let a = c.in-Some.attribute in
    record {
      class = steps.0 ∙ so_far.class;
      places = λ rule.
          part_added rule class a.class (a.attribute ∷ []) c.next.new.self.left c.loop-attribute.attribute-iterator.left (places_in rule c.loop-attribute.broken.items) _ _
          (steps.1.1 ∙ so_far.class) steps.1.0 (c.in_ok-add_own.ensures rule) (so_far.places rule);
    }
