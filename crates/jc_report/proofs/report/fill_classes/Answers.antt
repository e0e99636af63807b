use Rattle.std.proofs.Common.{◌∙◌, ap, subst, sym}
use Rattle.std.proofs.lemmas.Result.{on_ok_weaker}
use Rattle.jc_link.specs.Graphs.{IsIn, names_of_classes}
use Rattle.jc_link.specs.Tables.{Places, classes_of, world}
use Rattle.jc_report.specs.Trees.{Tree}
use Rattle.jc_report.specs.inside.Made.{AreMadeOf}
use Rattle.jc_report.proofs.reports.ClassesOfTables.{are_classes}
use Rattle.jc_report.proofs.report.fill_classes.Goals as goal

pub push_classes-requires-clause-names : goal.push_classes-requires-clause-names
push_classes-requires-clause-names c = c.requires.graph ∙ ap (λ (t : Tree). names_of_classes (classes_of t.classes)) (sym c.tree.view_is)

pub returns-clause-classes : goal.returns-clause-classes
returns-clause-classes c = λ prefixes lies f tree.
    let table = c.tree.inside.table in
    let places = ap (λ (t : Tree). t.classes) c.tree.view_is in
    on_ok_weaker c.push_classes.result
    (λ made.
    let there = subst (λ (t : Places). AreMadeOf t prefixes c.push_classes.new.classes.items) places made in
    are_classes f c.args.tree.now tree prefixes c.push_classes.new.classes.items there.0 there.1)
    (c.push_classes.ensures.classes prefixes (subst (λ (t : Places). IsIn (world t prefixes) c.args.maker.now) (sym places) lies))
