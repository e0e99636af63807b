use Rattle.std.proofs.Common.{◌<◌, ◌∙◌, ap, length, map, rules, subst, sym}
use Rattle.std.proofs.lemmas.List.{take_all}
use Rattle.jc_classes.specs.inside.FirstUsers.{AreFirst}
use Rattle.jc_classes.proofs.using.UsersOf.{entry_user, next_user, same_index}
use Rattle.jc_classes.proofs.users.users.Goals as goal

pub loop-entry-preserved : goal.loop-entry-preserved
loop-entry-preserved c =
    let entries = c.args.references.now in
    let n = c.loop-entry.entry-index in
    let there : n < length entries = search rules in
    next_user c.args.class.now c.deref.result.now c.deref-in-loop-entry.result.now entries n _ c.user.result c.loop-entry.users.items _
    (subst (AreFirst c.args.class.now) (sym c.deref.ensures.value) c.requires.first) (c.deref-in-loop-entry.ensures.value ∙ c.in_ok-marks.ensures)
    c.requires.within there (λ d. same_index entries n _ d there) c.user.ensures c.loop-entry.invariant (search rules)

pub returns : goal.returns
returns c = c.loop-entry.invariant ∙ ap (map (entry_user c.args.class.now)) (take_all c.loop-entry.entry-index c.args.references.now (search rules))
