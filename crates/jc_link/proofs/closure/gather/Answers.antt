use Rattle.std.proofs.Common.{ap, subst}
use Rattle.jc_classes.specs.NameLists.{IsRisingOf}
use Rattle.jc_classes.specs.Names.{names_of}
use Rattle.jc_link.specs.Graphs.{ClassGraph}
use Rattle.jc_link.specs.Tables.{world}
use Rattle.jc_link.proofs.closures.Names.{reach_listed, rising_list}
use Rattle.jc_link.proofs.closure.gather.Goals as goal

pub returns-clause-closure : goal.returns-clause-closure
returns-clause-closure c =
    let g = c.in_ok-graph.graph in
    let names = ap (λ (h : ClassGraph). h.names) c.graph.view_is in
    let rising = rising_list (names_of c.in_ok-names.names.items) c.of.result g.names c.of.ensures.kept (subst (IsRisingOf (names_of c.in_ok-names.names.items)) names c.in_ok-names.ensures) in
    record {
      names = reach_listed (world c.args.table.now c.args.outside.now) c.args.name.now g c.of.result c.in_ok-graph.ensures.around c.in_ok-graph.ensures.classes rising;
      class = c.in_ok-graph.ensures.classes;
      stands = c.in_ok-graph.ensures.around.stands;
    }
