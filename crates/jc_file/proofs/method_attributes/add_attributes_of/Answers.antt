use Rattle.std.proofs.Common.{◌≡◌, ◌∙◌, ◌&&◌, ◌++◌, refl, ap, sym}
use Rattle.std.specs.List.{flat_map}
use Rattle.jc_view.specs.declared.attribute_kind.AttributeKind.TheVariants as kinds
use Rattle.jc_view.specs.declared.attribute_kind.Holder.TheVariants as holders
use Rattle.jc_view.specs.AttributeReading.{with_inner}
use Rattle.jc_view.specs.Attributes.{codes_of, exceptions_of}
use Rattle.jc_view.specs.Places.{member_attributes}
use Rattle.jc_file.specs.FormatRules.{lacks_classes}
use Rattle.jc_file.specs.inside.AttributePlaces.{places_among}
use Rattle.jc_file.specs.inside.Broken.{places_in}
use Rattle.jc_view.specs.Attributes.{is_kind}
use Rattle.jc_file.proofs.sets.AttributesAdded.{part_added}
use Rattle.jc_file.proofs.sets.OfKinds.{all_left, are_bad_exceptions, bad_code, is_bad_code, is_of_kind, none_left_bad, none_left_count, none_of, one_less}
use Rattle.jc_file.proofs.method_attributes.add_attributes_of.Goals as goal

pub loop-attribute-init : goal.loop-attribute-init
loop-attribute-init c =
    let class = c.args.method.now.class in
    let m = c.args.method.now.member in
    let given : c.into_iter-attribute-iterator.result ≡ record { class = class; left = member_attributes m } = cc in
    rw given (record {
      class = refl;
      codes = all_left class kinds.Code is_bad_code holders.Method m _ c.requires refl refl;
      exceptions = all_left class kinds.Exceptions (are_bad_exceptions class) holders.Method m _ c.requires refl refl;
      places = λ rule. refl;
    })

pub loop-attribute-preserved : goal.loop-attribute-preserved
loop-attribute-preserved c =
    let class = c.args.method.now.class in
    let m = c.args.method.now.member.member in
    let so_far = c.loop-attribute.invariant in
    let lent = c.in-Some.attribute in
    let left = c.loop-attribute.attribute-iterator.left in
    let rest = c.next.new.self.left in
    let same = c.in-Some.ensures.steps.1.1 ∙ so_far.class in
    let is_left = c.in-Some.ensures.steps.1.0 in
    let code = c.code-code.result in
    record {
      class = c.in-Some.ensures.steps.0 ∙ so_far.class;
      codes = one_less class kinds.Code is_bad_code lent c.is_of.result c.is_none.result _ _ left rest (codes_of class m) is_left same
          (c.is_of.ensures ∙ sym (c.kind-kind.ensures kinds.Code))
          (ap (λ b. is_of_kind lent kinds.Code && b) (none_of code c.is_none.result c.is_none.ensures) ∙ bad_code lent code c.code-code.ensures)
          c.with-codes.ensures so_far.codes;
      exceptions = one_less class kinds.Exceptions (are_bad_exceptions class) lent (is_kind kinds.Exceptions c.kind-kind.result) (lacks_classes lent.class lent.attribute.attribute.bytes) _ _ left rest (exceptions_of class m) is_left same
          (sym (c.kind-kind.ensures kinds.Exceptions))
          (ap (λ k. is_of_kind lent kinds.Exceptions && lacks_classes k lent.attribute.attribute.bytes) same)
          c.with_exceptions-exceptions.ensures so_far.exceptions;
      places = λ rule.
          part_added rule class lent.class (with_inner class lent.attribute) (flat_map (with_inner class) rest) (flat_map (with_inner class) left)
          (places_in rule c.loop-attribute.broken.items) _ _
          same (ap (flat_map (with_inner class)) is_left)
          (c.in_ok-add_of_one.ensures rule ∙ ap (λ k. places_in rule c.loop-attribute.broken.items ++ places_among rule lent.class (with_inner k lent.attribute)) same) (so_far.places rule);
    }

pub returns-clause-found : goal.returns-clause-found
returns-clause-found c =
    let class = c.args.method.now.class in
    let none = c.in-None.ensures.steps.1.0 in
    let all = c.loop-attribute.invariant in
    record {
      code_count = none_left_count class kinds.Code is_bad_code _ _ _ none all.codes;
      bad_code = none_left_bad class kinds.Code is_bad_code _ _ _ none all.codes;
      exceptions_count = none_left_count class kinds.Exceptions (are_bad_exceptions class) _ _ _ none all.exceptions;
      bad_exceptions = none_left_bad class kinds.Exceptions (are_bad_exceptions class) _ _ _ none all.exceptions;
    }
