use Rattle.jc_classes.specs.inside.FactsShown.{reference_shown}
use Rattle.jc_classes.proofs.compared.Lists.{AreSameIf}
use Rattle.jc_classes.proofs.same_facts.are_same_references.Given as goal

abbrev pub invariant-loop-at : goal.invariant-loop-at
invariant-loop-at l = AreSameIf (reference_shown l.texts) (reference_shown l.other_texts) l.references l.others l.at
