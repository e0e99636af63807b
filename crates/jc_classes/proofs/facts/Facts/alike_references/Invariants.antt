use Rattle.std.proofs.Common.{◌≡◌, map, take}
use Rattle.jc_classes.specs.declared.alike.Asked.{Asked}
use Rattle.jc_classes.proofs.facts.Facts.alike_references.Given as goal

abbrev pub invariant-loop-one : goal.invariant-loop-one
invariant-loop-one l = l.numbers.items ≡ map (λ (a : Asked). a.number) (take l.one-index l.one-items)
