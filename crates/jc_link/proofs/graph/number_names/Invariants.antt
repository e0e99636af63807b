use Rattle.std.proofs.Common.{[], take}
use Rattle.jc_classes.specs.Names.{names_of}
use Rattle.jc_classes.specs.Numbers.{AddsNumbers}
use Rattle.jc_link.proofs.graph.number_names.Given as goal

abbrev pub invariant-loop-name : goal.invariant-loop-name
invariant-loop-name l = AddsNumbers l.fn.numbers [] l.numbers l.classes.items (names_of (take l.name-index l.names))
