use Rattle.std.proofs.Common.{subst}
use Rattle.jc_linkage.specs.Linkages.{IsCountedChange, Linkage}
use Rattle.jc_linkage.specs.Switches.{switches}
use Rattle.jc_linkage.proofs.held.Changed.{tells_switched}
use Rattle.jc_linkage.proofs.linkage.Linkage.change_outside.Goals as goal

pub returns-clause-counted : goal.returns-clause-counted
returns-clause-counted c =
    let table = c.self.inside.table in
    let old = c.self.inside.outside in
    let new : Linkage = record { classes = table; prefixes = c.args.outside } in
    subst (λ (a : Linkage). IsCountedChange a new c.args.meter.now c.remake_switched.new.meter) c.self.view_is
    (record { touched = switches table old c.args.outside; tells = tells_switched table old c.args.outside; counted = c.in_ok-remake_switched.ensures.counted })
