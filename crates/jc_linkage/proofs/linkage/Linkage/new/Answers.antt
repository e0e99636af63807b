use Rattle.jc_linkage.proofs.held.Holding.{nothing_held, nothing_named, nothing_vacant}
use Rattle.jc_linkage.proofs.linkage.Linkage.new.Goals as goal

pub invariant_of-linkage : goal.invariant_of-linkage
invariant_of-linkage c =
    let places = c.in_ok-table.table in
    let kept = c.new-2.result in
    let dependants = c.new-3.result in (
      nothing_held places c.args.outside kept dependants c.in_ok-table.ensures.empty c.new-2.ensures c.new-3.ensures,
      nothing_named places c.args.outside kept dependants c.in_ok-table.ensures.empty c.new-2.ensures,
      nothing_vacant places c.in_ok-table.ensures.empty,
    )
