use Rattle.std.proofs.Common.{◌++◌, None, ap, subst}
use Rattle.jc_classes.specs.Names.{names_of}
use Rattle.jc_link.specs.Tables.{world}
use Rattle.jc_linkage.specs.inside.Kept.{fresh_names}
use Rattle.jc_linkage.specs.inside.Prepared.{HasAskedFor, IsPrepared}
use Rattle.jc_linkage.proofs.changes.PrefixesSwitched.{counted_switched, fresh_kept, held_switched}
use Rattle.jc_linkage.proofs.prefixes.remake_switched.Goals as goal

pub commit-requires-clause-there : goal.commit-requires-clause-there
commit-requires-clause-there c =
    let users = c.in_ok-names.ensures in
    let ready = subst (λ z. IsPrepared (world c.args.table.now c.args.new.now) z None c.args.kept.now c.prepare.new.kept c.in_ok-fresh.fresh.items c.args.meter.now c.prepare.new.meter)
    (ap names_of c.deref.ensures.value) c.in_ok-fresh.ensures.ready.ready in
    fresh_kept c.args.table.now c.args.old.now c.args.new.now c.args.kept.now c.args.dependants.now c.requires (names_of c.in_ok-names.names.items) users.sound users.complete users.once ready

pub returns-clause-ok : goal.returns-clause-ok
returns-clause-ok c =
    let users = c.in_ok-names.ensures in
    let ready = subst (λ z. IsPrepared (world c.args.table.now c.args.new.now) z None c.args.kept.now c.prepare.new.kept c.in_ok-fresh.fresh.items c.args.meter.now c.prepare.new.meter)
    (ap names_of c.deref.ensures.value) c.in_ok-fresh.ensures.ready.ready in
    held_switched c.args.table.now c.args.old.now c.args.new.now c.args.kept.now c.args.dependants.now c.requires (names_of c.in_ok-names.names.items) users.sound users.complete users.once ready
    c.commit.new.kept c.commit.new.dependants c.commit.ensures.linked c.commit.ensures.kept

pub returns-clause-counted : goal.returns-clause-counted
returns-clause-counted c =
    let users = c.in_ok-names.ensures in
    let m = world c.args.table.now c.args.new.now in
    let fresh = c.in_ok-fresh.fresh.items in
    let both = subst (λ z. (r : IsPrepared m z None c.args.kept.now c.prepare.new.kept fresh c.args.meter.now c.prepare.new.meter) × HasAskedFor m (fresh_names (fresh ++ r.last)) c.args.meter.now c.prepare.new.meter)
    (ap names_of c.deref.ensures.value) (c.in_ok-fresh.ensures.ready.ready, c.in_ok-fresh.ensures.ready.asked) in
    counted_switched c.args.table.now c.args.old.now c.args.new.now c.args.kept.now c.args.dependants.now c.requires (names_of c.in_ok-names.names.items) users.sound users.complete users.once both.0 both.1
