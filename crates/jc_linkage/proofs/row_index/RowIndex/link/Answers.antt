use Rattle.std.proofs.Common.{◌≡◌, ◌||◌, ◌&&◌, [], Some, None, sym, ap, subst, ◌∙◌}
use Rattle.std.specs.FinMap as fin
use Rattle.jc_classes.specs.NameLists.{has}
use Rattle.jc_classes.specs.Names.{Name, same_name}
use Rattle.jc_index.specs.Indexes.{users_of}
use Rattle.jc_index.specs.inside.IsIndex.{IsIndex}
use Rattle.jc_index.proofs.indexes.Lists.{on_err_any, linked_by, is_index-insert, not_empty, has_added, has_one, put_back}
use Rattle.jc_report.specs.RequiredRows.{spelled}
use Rattle.jc_linkage.proofs.row_index.RowIndex.link.Goals as goal

pub returns-in_err-add-clause-err : goal.returns-in_err-add-clause-err
returns-in_err-add-clause-err c =
    let old = c.self.inside.lists in
    let name = spelled c.args.row.now in
    on_err_any c.from_residual-in_err-add.result (ap (fin.insert old name) c.in_err-add.ensures.err ∙ put_back old name c.in-Some.list.now (sym c.in-Some.ensures.value) ∙ c.self.view_is)

pub returns-in-Some-clause-ok : goal.returns-in-Some-clause-ok
returns-in-Some-clause-ok c =
    let old = c.self.inside.lists in
    let name = spelled c.args.row.now in
    let user = c.args.user.now in
    let list = c.in-Some.list.now in
    let more : (d : Name) → has c.add.new.self d ≡ (has list d || same_name d user) = λ d. c.in_ok-add.ensures.ok d ∙ ap (λ u. has list d || same_name d u) c.in_ok-user.ensures.items in
    λ n d. linked_by old name user (Some list) c.add.new.self (sym c.in-Some.ensures.value) more n d
    ∙ ap (λ lists. has (users_of lists n) d || (same_name n name && same_name d user)) c.self.view_is

pub returns-clause-ok : goal.returns-clause-ok
returns-clause-ok c =
    let old = c.self.inside.lists in
    let name = spelled c.args.row.now in
    let user = c.args.user.now in
    let list = c.in_ok-list.list in
    let more : (d : Name) → has list d ≡ (has [] d || same_name d user) =
    λ d. ap (λ l. has l d) c.in_ok-list.ensures ∙ has_one c.in_ok-user.user.items d ∙ ap (same_name d) c.in_ok-user.ensures.items in
    λ n d. ap (λ lists. has (users_of lists n) d) (c.in_ok-insert.ensures.ok ∙ ap (λ x. fin.insert old x list) (ap spelled c.in_ok-shared.ensures))
    ∙ linked_by old name user None list (sym c.in_default.ensures.value) more n d
    ∙ ap (λ lists. has (users_of lists n) d || (same_name n name && same_name d user)) c.self.view_is

pub invariant_of-self : goal.invariant_of-self
invariant_of-self c =
    let old = c.self.inside.lists in
    let name = spelled c.args.row.now in
    subst IsIndex (sym (ap (fin.insert old name) c.in_err-add.ensures.err ∙ put_back old name c.in-Some.list.now (sym c.in-Some.ensures.value))) c.self.invariant

pub invariant_of-self-in-Some : goal.invariant_of-self-in-Some
invariant_of-self-in-Some c =
    is_index-insert c.self.inside.lists (spelled c.args.row.now) c.add.new.self c.self.invariant
    (not_empty c.add.new.self c.in_ok-user.user.items (has_added c.in-Some.list.now c.add.new.self c.in_ok-user.user.items c.in_ok-add.ensures.ok))

pub invariant_of-self-2 : goal.invariant_of-self-2
invariant_of-self-2 c =
    let list = c.in_ok-list.list in
    let user = c.in_ok-user.user.items in
    subst IsIndex (sym c.in_ok-insert.ensures.ok) (is_index-insert c.self.inside.lists (spelled c.in_ok-shared.shared) list c.self.invariant
    (not_empty list user (has_added [] list user (λ d. ap (λ l. has l d) c.in_ok-list.ensures ∙ has_one user d))))
