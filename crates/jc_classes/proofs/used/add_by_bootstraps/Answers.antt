use Rattle.std.proofs.Common.{◌≡◌, ◌∙◌, ◌++◌, ap}
use Rattle.std.specs.List.{flat_map}
use Rattle.jc_view.specs.Places.{attributes_in}
use Rattle.jc_classes.specs.inside.Using.{named_by_attribute}
use Rattle.jc_classes.proofs.using.Adding.{all_added, named_in, next_added}
use Rattle.jc_classes.proofs.used.add_by_bootstraps.Goals as goal

pub loop-attribute-init : goal.loop-attribute-init
loop-attribute-init c =
    let class = c.args.class.now in
    let all : c.into_iter-attribute-iterator.result ≡ record { class = class; left = attributes_in class } = c.into_iter-attribute-iterator.ensures.into_iter_gives ∙ c.attributes-attribute-items.ensures.left in
    record {
      class = ap (λ i. i.class) all;
      names = ap (λ i. c.args.names.now.items ++ flat_map (named_by_attribute class) i.left) all;
    }

pub loop-attribute-preserved : goal.loop-attribute-preserved
loop-attribute-preserved c =
    let class = c.args.class.now in
    let steps = c.in-Some.ensures.steps in
    let a = c.in-Some.attribute.attribute in
    let names = c.loop-attribute.names.items in
    record {
      class = steps.0 ∙ c.loop-attribute.invariant.class;
      names = next_added (named_by_attribute class) names _ _ _ _ a steps.1.0
          (c.in_ok-add_by_attribute.ensures ∙ ap (λ k. names ++ named_by_attribute k a) (steps.1.1 ∙ c.loop-attribute.invariant.class))
          c.loop-attribute.invariant.names;
    }

pub returns : goal.returns
returns c =
    all_added (named_by_attribute c.args.class.now) _ _ _ c.in-None.ensures.steps.1.0 c.loop-attribute.invariant.names
    ∙ ap (λ v. c.args.names.now.items ++ v) (named_in c.args.class.now)
