use Rattle.std.proofs.Common.{◌≡◌, List, map, refl, subst}
use Rattle.std.specs.declared.alloc.Global.{Global}
use Rattle.std.specs.declared.vec.Vec.{Vec}
use Rattle.jc_classes.specs.Inheritance.{AreInherited, InheritanceErrors}
use Rattle.jc_classes.specs.Names.{Name}
use Rattle.jc_classes.specs.Numbers.{name_at}
use Rattle.jc_classes.specs.Worlds.{World}
use Rattle.jc_resolve.specs.Numbered.{Agrees, node_name}
use Rattle.jc_link.specs.Graphs.{ClassGraph}
use Rattle.jc_resolve.proofs.lookups.IfOks.{if_ok_map}
use Rattle.jc_link.proofs.parted.Making.{classes_within, told_in}
use Rattle.jc_link.proofs.part_maker.inheritance_in.Goals as goal

pub inheritance_errors-requires : goal.inheritance_errors-requires
inheritance_errors-requires c =
    classes_within c.args.graph.now c.args.hierarchy.now c.graph.inside c.as_slice.result.now c.requires c.graph.view_is
    c.as_slice.ensures.value c.graph.invariant

pub returns : goal.returns
returns c = λ m lies.
    let classes = c.graph.inside.classes.items in
    let shown = subst (λ (g : ClassGraph). map (name_at g.names) classes ≡ g.classes) c.graph.view_is refl in
    if_ok_map c.inheritance_errors.result _ _
    (λ (es : Vec InheritanceErrors Global)
    (tells : (k : World) → Agrees k c.args.hierarchy.now → AreInherited k (map (node_name c.args.hierarchy.now) c.as_slice.result.now) es.items).
    told_in (λ (k : World) (names : List Name). AreInherited k names es.items) m c.args.graph.now c.args.hierarchy.now classes c.as_slice.result.now
    c.requires shown c.as_slice.ensures.value lies tells)
    c.inheritance_errors.ensures
