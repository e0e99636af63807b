use Rattle.std.proofs.Common.{◌∙◌, ◌||◌, ap, sym, subst}
use Rattle.std.specs.FinMap as map
use Rattle.std.proofs.lemmas.Result.{IfOk-weaker}
use Rattle.jc_base.proofs.maps.FiniteMaps.{keys_rise}
use Rattle.jc_classes.specs.NameLists.{has}
use Rattle.jc_classes.specs.Names.{names_of}
use Rattle.jc_linkage.specs.Affected.{NoRepeat}
use Rattle.jc_linkage.specs.inside.SwitchedNames.{AreUsers, switches_by}
use Rattle.jc_linkage.proofs.held.UserNames.{once_rising}
use Rattle.jc_linkage.proofs.held.UsersFound.{has_key, users_all, users_next, users_none, users_passed}
use Rattle.jc_linkage.proofs.prefixes.users_of_switched.Goals as goal

pub loop-name-init : goal.loop-name-init
loop-name-init c =
    let test = switches_by c.args.kept.now c.args.old.now c.args.new.now in
    let lists = c.args.dependants.now.reach in
    let keys = c.keys-name-items.result in
    subst (λ z. AreUsers test lists z c.new-found.result) (sym c.into_iter-name-iterator.ensures.into_iter_gives)
    (subst (AreUsers test lists keys) (sym c.new-found.ensures) (users_none test lists keys c.keys-name-items.ensures.complete))

pub loop-name-preserved-in-Continue-1 : goal.loop-name-preserved-in-Continue-1
loop-name-preserved-in-Continue-1 c =
    let test = switches_by c.args.kept.now c.args.old.now c.args.new.now in
    let lists = c.args.dependants.now.reach in
    let x = c.in-Some.name.now in
    users_next test lists x c.next.new.self c.loop-name.found c.add_all.new.found (subst (λ z. AreUsers test lists z c.loop-name.found) c.in-Some.ensures.steps c.loop-name.invariant)
    (sym c.switches.ensures ∙ c.if-switches.true)
    (λ d. c.in_ok-add_all.ensures d ∙ ap (λ z. map.contains_key c.loop-name.found d || has z d) c.users.ensures.users)

pub loop-name-preserved : goal.loop-name-preserved
loop-name-preserved c =
    let test = switches_by c.args.kept.now c.args.old.now c.args.new.now in
    let lists = c.args.dependants.now.reach in
    users_passed test lists c.in-Some.name.now c.next.new.self c.loop-name.found (subst (λ z. AreUsers test lists z c.loop-name.found) c.in-Some.ensures.steps c.loop-name.invariant)
    (sym c.switches.ensures ∙ c.if-switches.false)

pub returns-clause-sound : goal.returns-clause-sound
returns-clause-sound c =
    IfOk-weaker c.into_keys.result _ _ (λ users is. λ d h. c.loop-name.invariant.sound d (sym (has_key c.loop-name.found (names_of users.items) is d) ∙ h)) c.into_keys.ensures

pub returns-clause-complete : goal.returns-clause-complete
returns-clause-complete c =
    let test = switches_by c.args.kept.now c.args.old.now c.args.new.now in
    let lists = c.args.dependants.now.reach in
    let all = subst (λ z. AreUsers test lists z c.loop-name.found) c.in-None.ensures.steps.0 c.loop-name.invariant in
    IfOk-weaker c.into_keys.result _ _ (λ users is. λ d u. has_key c.loop-name.found (names_of users.items) is d ∙ users_all test lists c.loop-name.found all d u) c.into_keys.ensures

pub returns-clause-once : goal.returns-clause-once
returns-clause-once c =
    IfOk-weaker c.into_keys.result _ _ (λ users is. subst NoRepeat (sym is) (once_rising _ (keys_rise c.loop-name.found))) c.into_keys.ensures
