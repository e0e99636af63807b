use Rattle.std.proofs.Common.{sym}
use Rattle.jc_linkage.proofs.held.Holding.{held_of}
use Rattle.jc_linkage.proofs.linkage.Linkage.part.Goals as goal

pub returns-clause-part : goal.returns-clause-part
returns-clause-part c =
    let inside = c.self.inside in
    let held = held_of c.args.self.now inside.table inside.outside c.self.view_is inside.kept inside.dependants c.self.invariant.0 in
    (held.parts.sound c.args.name.now c.in_ok-kept.kept.now (sym c.in_ok-kept.ensures)).part
