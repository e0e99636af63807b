use Rattle.std.proofs.Common.{◌≡◌, ◌∙◌, ap, codes}
use Rattle.jc_text.proofs.Sending.{sends_equal}
use Rattle.jc_list.specs.AttributeLines.{attribute_line}
use Rattle.jc_list.proofs.fronts.OneBehindAnother.{all_listed, begins_equal, item_begins, item_listed, lists_front, none_listed}
use Rattle.jc_list.proofs.attributes.write_inner_attributes.Goals as goal

pub loop-attribute-init : goal.loop-attribute-init
loop-attribute-init g c =
    let all : c.into_iter-attribute-iterator.result ≡ c.args.attributes = c.into_iter-attribute-iterator.ensures.into_iter_gives in
    record {
      class = ap (λ i. i.class) all;
      sent = none_listed _ _ _ (attribute_line c.args.attributes.class (codes "    ")) (ap (λ i. i.left) all);
    }

pub loop-attribute-preserved : goal.loop-attribute-preserved
loop-attribute-preserved g c =
    let steps = c.in-Some.ensures.steps in
    let same = ap (λ k. attribute_line k (codes "    ") c.in-Some.attribute.attribute) (steps.1.1 ∙ c.loop-attribute.invariant.class) in
    record {
      class = steps.0 ∙ c.loop-attribute.invariant.class;
      sent = item_listed (attribute_line c.args.attributes.class (codes "    ")) c.loop-attribute.invariant.sent steps.1.0 (sends_equal same c.in_ok-write_attribute_line.ensures);
    }

pub returns-in_err-write_attribute_line : goal.returns-in_err-write_attribute_line
returns-in_err-write_attribute_line g c =
    let steps = c.in-Some.ensures.steps in
    let same = ap (λ k. attribute_line k (codes "    ") c.in-Some.attribute.attribute) (steps.1.1 ∙ c.loop-attribute.invariant.class) in
    lists_front c.from_residual.result c.from_residual.ensures.0
    (item_begins (attribute_line c.args.attributes.class (codes "    ")) c.loop-attribute.invariant.sent steps.1.0 (begins_equal _ _ same c.in_err-write_attribute_line.ensures))

pub returns : goal.returns
returns g c = all_listed (attribute_line c.args.attributes.class (codes "    ")) c.loop-attribute.invariant.sent c.in-None.ensures.steps.1.0
