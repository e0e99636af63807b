use Rattle.std.proofs.Common.{◌≡◌, ◌∙◌, ap}
use Rattle.jc_link.specs.Tables.{classes_of}
use Rattle.jc_linkage.specs.Linkages.{Linkage}
use Rattle.jc_linkage.specs.inside.Lending.{with_parts}
use Rattle.jc_linkage.proofs.held.Classes.{are_held_classes}
use Rattle.jc_linkage.proofs.held.Holding.{held_of, named_of}
use Rattle.jc_linkage.proofs.linkage.Linkage.classes.Goals as goal

pub returns : goal.returns
returns c =
    let a = c.args.self.now in
    let inside = c.self.inside in
    let held = held_of a inside.table inside.outside c.self.view_is inside.kept inside.dependants c.self.invariant.0 in
    let named = named_of a inside.table inside.outside c.self.view_is c.self.invariant.1 in
    let table : c.classes.result ≡ classes_of a.classes = c.classes.ensures ∙ ap (λ (b : Linkage). classes_of b.classes) c.self.view_is in
    are_held_classes a inside.kept held.parts named (with_parts c.classes.result c.iter.result) (λ i. with_parts (table i) (c.iter.ensures.entries i))
