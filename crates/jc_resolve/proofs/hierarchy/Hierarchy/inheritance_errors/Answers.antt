use Rattle.std.proofs.Common.{◌<◌, IfOk, ap, arith, length, map, subst}
use Rattle.std.specs.List.{All}
use Rattle.std.proofs.lemmas.List.Elements.{All-weaker}
use Rattle.std.specs.declared.alloc.Global.{Global}
use Rattle.std.specs.declared.vec.Vec.{Vec}
use Rattle.jc_classes.specs.Inheritance.{AreInherited, InheritanceErrors}
use Rattle.jc_classes.specs.Worlds.{World}
use Rattle.jc_numbered.specs.inside.Shown.{indexed_of}
use Rattle.jc_resolve.specs.Numbered.{Agrees, Numbered, node_name, numbered}
use Rattle.jc_resolve.specs.inside.Inheritance.{TellErrors}
use Rattle.jc_resolve.proofs.loading.Held.{index_held}
use Rattle.jc_resolve.proofs.lookups.IfOks.{if_ok_map}
use Rattle.jc_resolve.proofs.lookups.InheritanceLemmas.{are_inherited}
use Rattle.jc_resolve.proofs.hierarchy.Hierarchy.inheritance_errors.Goals as goal

pub returns : goal.returns
returns c =
    let i = c.self.inside.classes in
    let x = indexed_of i in
    let v : Numbered = numbered i.names.now i.standing.now i.supertypes.now in
    let count = length i.standing.now in
    let nodes = c.args.nodes.now in
    let loads = c.self.inside.loads.items in
    let held = c.self.invariant.loaded in
    let size = ap (λ (z : Numbered). length z.names) c.self.view_is in
    let within : All (λ z. z < count) nodes =
    All-weaker (λ z. z < length c.args.self.now.names) (λ z. z < count) (λ z l. omega (arith, l, size, held.net.names)) nodes c.requires in
    let f = λ (es : Vec InheritanceErrors Global) (tells : TellErrors x c.as_slice.result.now nodes es.items) (m : World) (agrees : Agrees m v).
    let index = index_held i.names.now i.standing.now i.supertypes.now m i.rank.items i.good.items held.net agrees in
    are_inherited count x loads m index held.told nodes es.items within (subst (λ l. TellErrors x l nodes es.items) c.as_slice.ensures.value tells) in
    subst (λ (z : Numbered). IfOk c.inheritance_of_all.result (λ (es : Vec InheritanceErrors Global). (m : World) → Agrees m z
    → AreInherited m (map (node_name z) nodes) es.items)) c.self.view_is
    (if_ok_map _ _ _ f c.inheritance_of_all.ensures)
