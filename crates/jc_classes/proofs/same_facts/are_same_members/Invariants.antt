use Rattle.jc_classes.specs.inside.FactsShown.{member_shown}
use Rattle.jc_classes.proofs.compared.Lists.{AreSameIf}
use Rattle.jc_classes.proofs.same_facts.are_same_members.Given as goal

abbrev pub invariant-loop-at : goal.invariant-loop-at
invariant-loop-at l = AreSameIf (member_shown l.texts) (member_shown l.other_texts) l.members l.others l.at
