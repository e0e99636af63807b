use Rattle.jc_numbered.specs.inside.Shown.{indexed_of}
use Rattle.jc_resolve.specs.inside.AbstractMethods.{AddsAbstracts}
use Rattle.jc_resolve.proofs.abstract_methods.push_all.Given as goal

abbrev pub invariant-loop-number : goal.invariant-loop-number
invariant-loop-number l = AddsAbstracts (indexed_of l.classes) l.node l.number l.fn.all.items l.all.items
