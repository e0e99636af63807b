use Rattle.jc_numbered.specs.inside.FinalSearches.{AddsFinals}
use Rattle.jc_numbered.proofs.overriding.add_finals.Given as goal

abbrev pub invariant-loop-number : goal.invariant-loop-number
invariant-loop-number l = AddsFinals l.facts.methods l.number l.fn.finals l.finals
