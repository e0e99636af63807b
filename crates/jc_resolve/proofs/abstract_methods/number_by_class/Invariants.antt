use Rattle.jc_resolve.specs.inside.AbstractMethods.{AreNumbers}
use Rattle.jc_resolve.proofs.abstract_methods.number_by_class.Given as goal

abbrev pub invariant-loop-number : goal.invariant-loop-number
invariant-loop-number l = AreNumbers l.count l.number l.all l.of_class.items
