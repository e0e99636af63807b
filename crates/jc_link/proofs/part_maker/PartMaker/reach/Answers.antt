use Rattle.std.proofs.Common.{◌≡◌, ◌∙◌, List, map, sym, ap, subst}
use Rattle.std.specs.Borrow.{Bor}
use Rattle.jc_classes.specs.NameLists.{Lists, has}
use Rattle.jc_classes.specs.Names.{Name}
use Rattle.jc_classes.specs.Numbers.{name_at}
use Rattle.jc_classes.specs.Parts.{Reach}
use Rattle.jc_link.specs.Graphs.{ClassGraph, IsIn}
use Rattle.jc_link.proofs.graphs.Walking.{lists_of}
use Rattle.jc_link.proofs.part_maker.PartMaker.reach.Goals as goal

pub returns-clause-reach : goal.returns-clause-reach
returns-clause-reach c = λ m lies.
    let graph = c.self.inside.graph.now in
    let list = c.see_reach.new.seen.list in
    let there : IsIn m graph = subst (IsIn m) (sym c.self.view_is) lies in
    let names : map (λ (name : Bor Name). name.now) c.in_ok-names.names.items ≡ map (name_at graph.names) list =
    c.in_ok-names.ensures ∙ ap (λ (n : ClassGraph). map (name_at n.names) c.nodes.result.now) c.graph.view_is ∙ ap (map (name_at graph.names)) c.nodes.ensures in
    subst (λ (g : ClassGraph). Lists c.in_ok-reach.reach (Reach m (name_at g.classes c.args.place))) c.self.view_is
    (lists_of graph.names (Reach m (name_at graph.classes c.args.place)) list c.in_ok-reach.reach (c.in_ok-see_reach.ensures.reach m there) c.in_ok-reach.ensures.rises
    (λ n. c.in_ok-reach.ensures.same n ∙ ap (λ (z : List Name). has z n) names))
