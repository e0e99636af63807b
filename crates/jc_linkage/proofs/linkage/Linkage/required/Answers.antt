use Rattle.jc_linkage.proofs.held.Holding.{held_of}
use Rattle.jc_linkage.proofs.held.Required.{rows_required}
use Rattle.jc_linkage.proofs.linkage.Linkage.required.Goals as goal

pub returns : goal.returns
returns c =
    let a = c.args.self.now in
    let inside = c.self.inside in
    let held = held_of a inside.table inside.outside c.self.view_is inside.kept inside.dependants c.self.invariant.0 in
    λ classes are. rows_required a inside.kept inside.dependants held classes are c.rows.result c.rows.ensures c.rows_have_users.ensures
