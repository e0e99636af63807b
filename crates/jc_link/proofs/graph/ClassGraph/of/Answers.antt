use Rattle.std.proofs.Common.{◌∙◌}
use Rattle.jc_link.specs.Graphs.{names_of_classes}
use Rattle.jc_link.specs.Tables.{classes_of}
use Rattle.jc_link.proofs.graphs.ClassesNumbered.{none_once, only_classes}
use Rattle.jc_link.proofs.graph.ClassGraph.of.Goals as goal

pub number_classes-requires : goal.number_classes-requires
number_classes-requires c = none_once c.new-names.result c.new-names.ensures

pub gather_graph-requires : goal.gather_graph-requires
gather_graph-requires c =
    only_classes c.new-names.result c.number_classes.new.numbers (names_of_classes (classes_of c.args.table.now)) c.in_ok-classes.classes.items c.new-names.ensures c.in_ok-classes.ensures

pub returns-clause-classes : goal.returns-clause-classes
returns-clause-classes c = c.in_ok-graph.ensures.classes ∙ c.in_ok-classes.ensures.named
