use Rattle.jc_numbered.specs.inside.Shown.{indexed_of}
use Rattle.jc_resolve.specs.inside.AbstractMethods.{AreAbstract}
use Rattle.jc_resolve.proofs.abstract_methods.find_all.Given as goal

abbrev pub invariant-loop-node : goal.invariant-loop-node
invariant-loop-node l = AreAbstract l.node (indexed_of l.classes) l.all.items
