use Rattle.std.proofs.Common.{◌≡◌, ◌++◌, map}
use Rattle.std.specs.List.{flat_map}
use Rattle.std.specs.Option.{option_to_list}
use Rattle.jc_view.specs.Places.{PlacedMember}
use Rattle.jc_classes.specs.FactsOf.{member_of}
use Rattle.jc_classes.specs.inside.ClassTexts.{Tells}
use Rattle.jc_classes.specs.inside.FactsShown.{member_shown}
use Rattle.jc_classes.proofs.class_texts.ClassTexts.members.Given as goal

abbrev pub invariant-loop-member : goal.invariant-loop-member
invariant-loop-member l = record {
  class : l.member-iterator.class ≡ l.fn.self.class;
  found : Tells l.fn.self l.self (λ texts. map (member_shown texts) l.entries.items ++ flat_map (λ (m : PlacedMember). option_to_list (member_of l.fn.self.class m.member)) l.member-iterator.left ≡ flat_map (λ (m : PlacedMember). option_to_list (member_of l.fn.self.class m.member)) l.initial.member-iterator.left);
}
