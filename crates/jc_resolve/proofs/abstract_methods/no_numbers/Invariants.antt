use Rattle.std.proofs.Common.{List}
use Rattle.jc_resolve.specs.declared.abstract_methods.AbstractMethod.{AbstractMethod}
use Rattle.jc_resolve.specs.inside.AbstractMethods.{AreNumbers}
use Rattle.jc_resolve.proofs.abstract_methods.no_numbers.Given as goal

abbrev pub invariant-loop : goal.invariant-loop
invariant-loop l = (all : List AbstractMethod) → AreNumbers l.counter 0 all l.of_class.items
