use Rattle.jc_classes.specs.Names.{names_of}
use Rattle.jc_linkage.proofs.held.Dependants.{are_dependants}
use Rattle.jc_linkage.proofs.held.Holding.{held_of}
use Rattle.jc_linkage.proofs.linkage.Linkage.dependants.Goals as goal

pub returns : goal.returns
returns c =
    let a = c.args.self.now in
    let inside = c.self.inside in
    let held = held_of a inside.table inside.outside c.self.view_is inside.kept inside.dependants c.self.invariant.0 in
    are_dependants a inside.kept inside.dependants held c.args.name.now (names_of c.users.result.now) c.users.ensures.users c.users.ensures.rises
