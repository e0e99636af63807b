use Rattle.std.proofs.Common.{◌∙◌, ap, subst, sym}
use Rattle.jc_link.specs.Graphs.{ClassGraph, IsIn}
use Rattle.jc_link.specs.Tables.{Places, world}
use Rattle.jc_report.specs.Trees.{Tree}
use Rattle.jc_report.proofs.reports.Inheritances.{of_tree, unimplemented_of_tree}
use Rattle.jc_report.proofs.tree_errors.TreeErrors.make.Goals as goal

pub returns-clause-errors : goal.returns-clause-errors
returns-clause-errors c = λ f tree.
    let prefixes = c.args.outside.now in
    let places = ap (λ (t : Tree). t.classes) c.tree.view_is in
    let gathered = subst (λ (t : Places). IsIn (world t prefixes) c.in_ok-graph.graph) places c.in_ok-graph.ensures.around.stands in
    let lies = subst (IsIn (world c.args.tree.now.classes prefixes)) (sym c.in_ok-maker.ensures) gathered in
    let after = subst (IsIn (world c.args.tree.now.classes prefixes)) (sym c.over.ensures.graph) lies in
    record {
      report = c.in_ok-report.ensures.report prefixes lies f tree;
      inheritance = of_tree f c.args.tree.now tree prefixes c.in_ok-report.report.classes c.over.new.maker.classes c.in_ok-inheritance.inheritance.items
          (c.in_ok-report.ensures.names ∙ ap (λ (g : ClassGraph). g.classes) (sym c.over.ensures.graph))
          (c.in_ok-inheritance.ensures (world c.args.tree.now.classes prefixes) after);
      unimplemented = unimplemented_of_tree f c.args.tree.now tree prefixes c.in_ok-report.report.classes c.over.new.maker.classes
          c.in_ok-unimplemented.unimplemented
          (c.in_ok-report.ensures.names ∙ ap (λ (g : ClassGraph). g.classes) (sym c.over.ensures.graph))
          (c.in_ok-unimplemented.ensures (world c.args.tree.now.classes prefixes) after);
    }
