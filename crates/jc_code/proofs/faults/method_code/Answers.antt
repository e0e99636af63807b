use Rattle.std.proofs.Common.{◌≡◌, ◌∙◌, ◌+◌, ◌++◌, ◌∷◌, None, Some, ap, sym}
use Rattle.jc_view.specs.Attributes.{codes_of}
use Rattle.jc_view.specs.Places.{member_attributes, attributes_from}
use Rattle.jc_code.specs.CodeFaults.{well_formed}
use Rattle.jc_code.proofs.methods.PlacedCodes.{codes_left, lent, codes_placed, codes_step, none_found, second_found, found_is}
use Rattle.jc_code.proofs.faults.method_code.Goals as goal

pub loop-attribute-init : goal.loop-attribute-init
loop-attribute-init c =
    let class = c.args.member.now.class in
    let m = c.args.member.now.member in
    let all : c.into_iter-attribute-iterator.result ≡ record { class = class; left = member_attributes m } = c.into_iter-attribute-iterator.ensures.into_iter_gives ∙ c.attributes-attribute-items.ensures in
    record {
      class = ap (λ i. i.class) all;
      left = λ is_method. ap (λ i. codes_left class i.left) all ∙ ap (λ h. codes_left class (attributes_from h (m.place + 8) m.member.attributes)) is_method ∙ codes_placed class (m.place + 8) m.member.attributes;
    }

pub returns-then-is_some : goal.returns-then-is_some
returns-then-is_some c = λ is_method.
    let class = c.args.member.now.class in
    let steps = c.in-Some.ensures.steps in
    let rest = c.next.new.self.left in
    let all = well_formed (codes_of class c.args.member.now.member.member) in
    let so_far = codes_step class c.in-Some.attribute (Some c.in-Some-code.code) c.loop-attribute.attribute-iterator.left rest (lent c.loop-attribute.found) all
    (steps.1.1 ∙ c.loop-attribute.invariant.class) (sym c.in-Some-code.is ∙ c.code.ensures) steps.1.0 (c.loop-attribute.invariant.left is_method) in
    second_found c.loop-attribute.found c.in-Some-code.code.code (codes_left class rest) all (sym c.is_some.ensures ∙ c.if-is_some.true) so_far

pub loop-attribute-preserved-in-Some-code : goal.loop-attribute-preserved-in-Some-code
loop-attribute-preserved-in-Some-code c =
    let class = c.args.member.now.class in
    let steps = c.in-Some.ensures.steps in
    let rest = c.next.new.self.left in
    let all = well_formed (codes_of class c.args.member.now.member.member) in
    let none = none_found c.loop-attribute.found (sym c.is_some.ensures ∙ c.if-is_some.false) in
    record {
      class = steps.0 ∙ c.loop-attribute.invariant.class;
      left = λ is_method.
          ap (λ o. lent o ++ (c.in-Some-code.code.code ∷ codes_left class rest)) (sym none)
          ∙ codes_step class c.in-Some.attribute (Some c.in-Some-code.code) c.loop-attribute.attribute-iterator.left rest (lent c.loop-attribute.found) all
          (steps.1.1 ∙ c.loop-attribute.invariant.class) (sym c.in-Some-code.is ∙ c.code.ensures) steps.1.0 (c.loop-attribute.invariant.left is_method);
    }

pub loop-attribute-preserved : goal.loop-attribute-preserved
loop-attribute-preserved c =
    let class = c.args.member.now.class in
    let steps = c.in-Some.ensures.steps in
    let rest = c.next.new.self.left in
    let all = well_formed (codes_of class c.args.member.now.member.member) in
    record {
      class = steps.0 ∙ c.loop-attribute.invariant.class;
      left = λ is_method. codes_step class c.in-Some.attribute None c.loop-attribute.attribute-iterator.left rest (lent c.loop-attribute.found) all
          (steps.1.1 ∙ c.loop-attribute.invariant.class) (sym c.in_default.is ∙ c.code.ensures) steps.1.0 (c.loop-attribute.invariant.left is_method);
    }

pub returns : goal.returns
returns c = λ is_method.
    let class = c.args.member.now.class in
    let left = c.loop-attribute.attribute-iterator.left in
    let all = well_formed (codes_of class c.args.member.now.member.member) in
    found_is c.loop-attribute.found (codes_left class left) all (ap (codes_left class) c.in-None.ensures.steps.1.0) (c.loop-attribute.invariant.left is_method)
