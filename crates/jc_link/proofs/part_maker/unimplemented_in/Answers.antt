use Rattle.std.proofs.Common.{◌≡◌, List, map, refl, subst}
use Rattle.jc_classes.specs.Inheritance.{Inherited}
use Rattle.jc_classes.specs.Names.{Name}
use Rattle.jc_classes.specs.Numbers.{name_at}
use Rattle.jc_classes.specs.Selection.{EachUnimplemented, IsNamed}
use Rattle.jc_classes.specs.Worlds.{World}
use Rattle.jc_resolve.specs.Numbered.{Agrees, node_name}
use Rattle.jc_link.specs.Graphs.{ClassGraph}
use Rattle.jc_resolve.proofs.lookups.IfOks.{if_ok_map}
use Rattle.jc_link.proofs.parted.Making.{classes_within, told_in}
use Rattle.jc_link.proofs.part_maker.unimplemented_in.Goals as goal

pub unimplemented-requires : goal.unimplemented-requires
unimplemented-requires c =
    classes_within c.args.graph.now c.args.hierarchy.now c.graph.inside c.as_slice.result.now c.requires c.graph.view_is
    c.as_slice.ensures.value c.graph.invariant

pub returns : goal.returns
returns c = λ m lies named.
    let classes = c.graph.inside.classes.items in
    let shown = subst (λ (g : ClassGraph). map (name_at g.names) classes ≡ g.classes) c.graph.view_is refl in
    if_ok_map c.unimplemented.result _ _
    (λ (u : List (List Inherited))
    (tells : (k : World) → Agrees k c.args.hierarchy.now → IsNamed k → EachUnimplemented k (map (node_name c.args.hierarchy.now) c.as_slice.result.now) u).
    told_in (λ (k : World) (names : List Name). IsNamed k → EachUnimplemented k names u) m c.args.graph.now c.args.hierarchy.now classes c.as_slice.result.now
    c.requires shown c.as_slice.ensures.value lies tells named)
    c.unimplemented.ensures
