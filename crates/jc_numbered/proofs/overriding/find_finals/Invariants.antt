use Rattle.jc_numbered.specs.inside.FinalSearches.{AreFinals}
use Rattle.jc_numbered.specs.inside.Shown.{indexed_of}
use Rattle.jc_numbered.proofs.overriding.find_finals.Given as goal

abbrev pub invariant-loop-node : goal.invariant-loop-node
invariant-loop-node l = AreFinals l.node (indexed_of l.classes) l.finals
