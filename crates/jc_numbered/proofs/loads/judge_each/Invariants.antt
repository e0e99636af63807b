use Rattle.std.proofs.Common.{◌≡◌, drop}
use Rattle.jc_numbered.specs.inside.Shown.{indexed_of}
use Rattle.jc_numbered.specs.inside.Loading.{judged_each}
use Rattle.jc_numbered.proofs.loads.judge_each.Given as goal

abbrev pub invariant-loop-other : goal.invariant-loop-other
invariant-loop-other l = judged_each (indexed_of l.classes) l.loads l.node l.is_class (drop l.other-index l.supertypes) ≡ judged_each (indexed_of l.classes) l.loads l.node l.has_superclass l.supertypes
