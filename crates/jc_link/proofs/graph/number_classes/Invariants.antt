use Rattle.jc_link.specs.Tables.{classes_of}
use Rattle.jc_link.proofs.graphs.ClassesNumbered.{AreNumberedBut}
use Rattle.jc_link.proofs.graph.number_classes.Given as goal

abbrev pub invariant-loop-facts : goal.invariant-loop-facts
invariant-loop-facts l = AreNumberedBut (classes_of l.table) l.facts-iterator l.fn.numbers l.numbers l.classes.items
