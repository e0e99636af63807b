use Rattle.jc_classes.specs.inside.FactsShown.{text_at}
use Rattle.jc_classes.proofs.compared.Lists.{AreSameIf}
use Rattle.jc_classes.proofs.same_facts.are_same_names.Given as goal

abbrev pub invariant-loop-at : goal.invariant-loop-at
invariant-loop-at l = AreSameIf (text_at l.texts) (text_at l.other_texts) l.names l.others l.at
