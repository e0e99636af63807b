use Rattle.std.proofs.Common.{IfOk, List, map, subst}
use Rattle.jc_classes.specs.Inheritance.{Inherited}
use Rattle.jc_classes.specs.Worlds.{World}
use Rattle.jc_numbered.specs.inside.Indexed.{IsIndexed, indexed_name}
use Rattle.jc_numbered.specs.inside.Shown.{indexed_of}
use Rattle.jc_resolve.specs.Numbered.{Agrees, Numbered, node_name, numbered}
use Rattle.jc_classes.specs.Selection.{EachUnimplemented, IsNamed}
use Rattle.jc_resolve.proofs.loading.Held.{index_held}
use Rattle.jc_resolve.proofs.lookups.IfOks.{if_ok_map}
use Rattle.jc_resolve.proofs.hierarchy.Hierarchy.unimplemented.Goals as goal

pub returns : goal.returns
returns c =
    let i = c.self.inside.classes in
    let x = indexed_of i in
    let v : Numbered = numbered i.names.now i.standing.now i.supertypes.now in
    let nodes = c.args.nodes.now in
    let held = c.self.invariant.loaded in
    let f = λ (u : List (List Inherited)) (tells : (m : World) → IsIndexed m x → IsNamed m → EachUnimplemented m (map (indexed_name x) nodes) u) (m : World) (agrees : Agrees m v) (named : IsNamed m).
    tells m (index_held i.names.now i.standing.now i.supertypes.now m i.rank.items i.good.items held.net agrees) named in
    subst (λ (z : Numbered). IfOk c.find_unimplemented.result (λ u. (m : World) → Agrees m z → IsNamed m
    → EachUnimplemented m (map (node_name z) nodes) u)) c.self.view_is
    (if_ok_map _ _ _ f c.find_unimplemented.ensures)
