use Rattle.std.proofs.Common.{◌||◌, is_some, ap, sym, subst, ◌∙◌}
use Rattle.std.specs.FinMap as map
use Rattle.std.specs.Option.{option_copied}
use Rattle.jc_classes.specs.Names.{names_of}
use Rattle.jc_link.specs.Tables.{class_at}
use Rattle.jc_linkage.specs.Affected.{NoRepeat, counts_of}
use Rattle.jc_linkage.specs.Steps.{at_step}
use Rattle.jc_linkage.specs.inside.Kept.{fresh_names}
use Rattle.jc_linkage.specs.inside.Users.{is_name}
use Rattle.jc_linkage.proofs.changes.NamesChanged.{counted_then, held_then, made_of, not_given, users_by, users_kept}
use Rattle.jc_linkage.proofs.changes.SameClasses.{counted_same, held_same}
use Rattle.jc_linkage.proofs.fresh.FreshLists.{fresh_some}
use Rattle.jc_linkage.proofs.steps.ClassesStepped.{new_name_absent, gone_taken}
use Rattle.jc_linkage.proofs.edit.remake.Goals as goal

pub prepare-requires-clause-absent : goal.prepare-requires-clause-absent
prepare-requires-clause-absent c = λ n e. new_name_absent c.args.kept.now c.args.second.now n (sym c.new_name-comes.ensures ∙ e)

pub finish-requires-clause-there : goal.finish-requires-clause-there
finish-requires-clause-there c = λ d h.
    let first = c.args.first.now in
    let second = c.args.second.now in
    let gone = is_name (option_copied c.args.gone) in
    let kept = c.args.kept.now in
    let dependants = c.args.dependants.now in
    let ready = c.in_ok-fresh.ensures.ready.ready in
    let fresh = c.in_ok-fresh.fresh.items in
    let users = users_by first second (option_copied c.name_of.result) (option_copied c.name_of-2.result) gone (names_of c.in_ok-names.names.items) (fresh_names fresh) dependants
    c.name_of.ensures c.name_of-2.ensures (ready.others ∙ ap names_of c.deref.ensures.value) c.in_ok-names.ensures.has in
    let p = users_kept kept dependants first second gone (fresh_names fresh) c.requires.linked users d h in
    (p.0, ap is_some (ready.at d) ∙ fresh_some ready.last d (map.get kept d) p.1)

pub finish-requires-clause-once : goal.finish-requires-clause-once
finish-requires-clause-once c = subst NoRepeat (sym (c.in_ok-fresh.ensures.ready.ready.others ∙ ap names_of c.deref.ensures.value)) c.in_ok-names.ensures.once

pub finish-requires-clause-vacant : goal.finish-requires-clause-vacant
finish-requires-clause-vacant c = λ n h. not_given (at_step c.args.first.now n) (class_at c.args.table.now n) (sym (c.requires.gone n) ∙ h)

pub returns-clause-held : goal.returns-clause-held
returns-clause-held c = λ old held stood stays.
    let first = c.args.first.now in
    let second = c.args.second.now in
    let gone = is_name (option_copied c.args.gone) in
    let ready = c.in_ok-fresh.ensures.ready.ready in
    let fresh = c.in_ok-fresh.fresh.items in
    let users = users_by first second (option_copied c.name_of.result) (option_copied c.name_of-2.result) gone (names_of c.in_ok-names.names.items) (fresh_names fresh) c.args.dependants.now
    c.name_of.ensures c.name_of-2.ensures (ready.others ∙ ap names_of c.deref.ensures.value) c.in_ok-names.ensures.has in
    let made = made_of first second gone (option_copied c.new_name-comes.result) held stood c.requires.second stays c.requires.gone c.new_name-comes.ensures users
    (subst NoRepeat (sym (ap names_of c.deref.ensures.value)) c.in_ok-names.ensures.once) ready in
    let before = c.args.meter.now in
    let behind = c.prepare.new.meter in (
      held_same c.args.table.now c.finish.new.table c.args.outside.now c.finish.new.kept c.finish.new.dependants c.finish.ensures.classes
          (held_then made c.finish.new.kept c.finish.new.dependants c.finish.ensures.linked c.finish.ensures.kept),
      counted_same c.args.table.now c.finish.new.table c.args.outside.now (λ n. at_step first n || at_step second n) (counts_of before) (counts_of behind) c.finish.ensures.classes
          (counted_then made before behind ready.made c.in_ok-fresh.ensures.ready.asked),
    )

pub returns-clause-taken : goal.returns-clause-taken
returns-clause-taken c = λ taken. c.finish.ensures.taken (gone_taken c.args.first.now c.args.second.now (is_name (option_copied c.args.gone)) c.args.table.now c.requires.gone c.requires.second taken)
