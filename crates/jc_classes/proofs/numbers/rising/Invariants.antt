use Rattle.std.proofs.Common.{take}
use Rattle.jc_classes.specs.inside.Numbering.{IsNumbered}
use Rattle.jc_classes.proofs.numbers.rising.Given as goal

abbrev pub invariant-loop-number : goal.invariant-loop-number
invariant-loop-number l = IsNumbered l.places (take l.number l.names)
