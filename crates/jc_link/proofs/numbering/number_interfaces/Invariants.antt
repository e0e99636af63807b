use Rattle.std.proofs.Common.{take}
use Rattle.jc_classes.specs.Numbers.{AddsNumbers}
use Rattle.jc_link.proofs.numbering.number_interfaces.Given as goal

abbrev pub invariant-loop-number : goal.invariant-loop-number
invariant-loop-number l = AddsNumbers l.initial.numbers l.initial.direct.items l.numbers l.direct.items (take l.number l.facts.interfaces)
