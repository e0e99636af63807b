use Rattle.jc_numbered.specs.inside.Shown.{indexed_of}
use Rattle.jc_numbered.specs.inside.Picks.{LowestSoFar}
use Rattle.jc_numbered.proofs.picks.lowest.Given as goal

abbrev pub invariant-loop-node : goal.invariant-loop-node
invariant-loop-node l = LowestSoFar (indexed_of l.classes) l.nodes l.best l.node-index
