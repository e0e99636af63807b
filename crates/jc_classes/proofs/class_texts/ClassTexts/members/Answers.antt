use Rattle.std.proofs.Common.{◌≡◌, ◌∙◌, ap, subst}
use Rattle.std.specs.Prelude.{option_map}
use Rattle.std.specs.List.{flat_map}
use Rattle.std.specs.Option.{option_to_list}
use Rattle.jc_view.specs.Places.{PlacedMember}
use Rattle.jc_classes.specs.FactsOf.{member_of}
use Rattle.jc_classes.specs.inside.ConstantTexts.{texts_of}
use Rattle.jc_classes.specs.inside.FactsShown.{member_shown}
use Rattle.jc_classes.proofs.texts.AskedTexts.{one_more_left}
use Rattle.jc_classes.proofs.class_texts.ClassTexts.members.Goals as goal

pub loop-member-preserved : goal.loop-member-preserved
loop-member-preserved c =
    let class = c.args.self.now.class in
    let f = λ (m : PlacedMember). option_to_list (member_of class m.member) in
    let m = c.in-Some.member.member in
    let steps = c.in-Some.ensures.steps in
    let is : option_map (member_shown (texts_of class)) c.member_entry.result ≡ member_of class m.member =
    subst (λ k. option_map (member_shown (texts_of k)) c.member_entry.result ≡ member_of k m.member) (ap (λ k. k.class) c.self.view_is) c.member_entry.ensures in
    record {
      class = steps.0 ∙ c.loop-member.invariant.class;
      found = one_more_left member_shown c.loop-member.entries.items c.push_some.new.entries.items c.member_entry.result c.in_ok-entry.entry (member_of class m.member) is c.in_ok-entry.ensures c.in_ok-push_some.ensures
          (flat_map f c.loop-member.member-iterator.left) (flat_map f c.next.new.self.left) (flat_map f c.into_iter-member-iterator.result.left) c.loop-member.invariant.found (ap (flat_map f) steps.1.0);
    }
