use Rattle.std.proofs.Common.{◌∙◌, ◌++◌, ◌||◌, ◌&&◌, not, [], ap, sym, subst}
use Rattle.std.specs.List.{filter}
use Rattle.std.specs.Option.{option_copied}
use Rattle.jc_classes.specs.NameLists.{has}
use Rattle.jc_classes.specs.Names.{names_of}
use Rattle.jc_linkage.specs.Affected.{NoRepeat}
use Rattle.jc_linkage.specs.inside.Users.{has_list, is_name, is_wanted, users_at}
use Rattle.jc_linkage.proofs.held.UserNames.{once_rising, wanted_has, wanted_once}
use Rattle.jc_linkage.proofs.affected.users_of.Goals as goal

pub returns-clause-has : goal.returns-clause-has
returns-clause-has c = λ d.
    let gone = option_copied c.args.gone in
    let one = has_list c.list_at-one.result in
    let two = has_list c.list_at.result in
    let first = c.in_ok-add_users.ensures.added ∙ ap (λ z. names_of z ++ filter (is_wanted gone []) one) c.new-users.ensures.items in
    ap (λ z. has z d) (c.in_ok-add_users-2.ensures.added ∙ ap (λ z. z ++ filter (is_wanted gone one) two) first)
    ∙ wanted_has gone one two d
    ∙ ap (λ z. (has z d || has two d) && not (is_name gone d)) c.list_at-one.ensures
    ∙ ap (λ z. (has (users_at c.args.dependants.now.reach (option_copied c.args.first)) d || has z d) && not (is_name gone d)) c.list_at.ensures

pub returns-clause-once : goal.returns-clause-once
returns-clause-once c =
    let gone = option_copied c.args.gone in
    let one = has_list c.list_at-one.result in
    let two = has_list c.list_at.result in
    let first = c.in_ok-add_users.ensures.added ∙ ap (λ z. names_of z ++ filter (is_wanted gone []) one) c.new-users.ensures.items in
    subst NoRepeat (sym (c.in_ok-add_users-2.ensures.added ∙ ap (λ z. z ++ filter (is_wanted gone one) two) first))
    (wanted_once gone one two (once_rising one c.in_ok-add_users.ensures.rises) (once_rising two c.in_ok-add_users-2.ensures.rises))
