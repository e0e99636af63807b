use Rattle.std.proofs.Common.{◌≡◌, ◌&&◌, not, true, false, Some, sym, ap, subst, ◌∙◌}
use Rattle.jc_classes.specs.NameLists.{has}
use Rattle.jc_classes.specs.Names.{same_name}
use Rattle.jc_index.specs.Indexes.{users_of}
use Rattle.jc_index.specs.inside.IsIndex.{IsIndex}
use Rattle.jc_index.proofs.indexes.Lists.{unlinked_by, unlinked_empty, unlinked_none, is_index-insert, is_index-remove}
use Rattle.jc_report.specs.RequiredRows.{spelled}
use Rattle.jc_linkage.proofs.row_index.RowIndex.unlink.Goals as goal
use Rattle.jc_linkage.proofs.row_index.RowIndex.unlink.Goals.{in-Some-1, in-None-1}

pub returns-then-is_empty : goal.returns-then-is_empty
returns-then-is_empty c =
    let old = c.self.inside.lists in
    let name = spelled c.args.row.now in
    let user = c.args.user.now in
    let same : c.match-remove.self ≡ c.remove-then-is_empty.new.self = elim c.match-remove.branch [ in-Some-1 w ↦ w.self-is | in-None-1 w ↦ w.self-is ] in
    λ n d. ap (λ lists. has (users_of lists n) d) (same ∙ c.remove-then-is_empty.ensures.removed)
    ∙ unlinked_empty old name user (Some c.in-Some.list.now) c.remove.new.self (c.is_empty.ensures.0 c.if-is_empty.true) (sym c.in-Some.ensures.value) c.remove.ensures n d
    ∙ ap (λ lists. has (users_of lists n) d && not (same_name n name && same_name d user)) c.self.view_is

pub returns-else-is_empty : goal.returns-else-is_empty
returns-else-is_empty c =
    let old = c.self.inside.lists in
    let name = spelled c.args.row.now in
    let user = c.args.user.now in
    λ n d. unlinked_by old name user (Some c.in-Some.list.now) c.remove.new.self (sym c.in-Some.ensures.value) c.remove.ensures n d
    ∙ ap (λ lists. has (users_of lists n) d && not (same_name n name && same_name d user)) c.self.view_is

pub returns-in_default : goal.returns-in_default
returns-in_default c =
    let name = spelled c.args.row.now in
    let user = c.args.user.now in
    λ n d. unlinked_none c.self.inside.lists name user (sym c.in_default.ensures.value) n d
    ∙ ap (λ lists. has (users_of lists n) d && not (same_name n name && same_name d user)) c.self.view_is

pub invariant_of-self : goal.invariant_of-self
invariant_of-self c =
    subst IsIndex (sym c.remove-then-is_empty.ensures.removed) (is_index-remove c.self.inside.lists (spelled c.args.row.now) c.remove.new.self c.self.invariant)

pub invariant_of-self-then-is_empty-2 : goal.invariant_of-self-then-is_empty-2
invariant_of-self-then-is_empty-2 c =
    subst IsIndex (sym c.remove-then-is_empty.ensures.removed) (is_index-remove c.self.inside.lists (spelled c.args.row.now) c.remove.new.self c.self.invariant)

pub invariant_of-self-else-is_empty : goal.invariant_of-self-else-is_empty
invariant_of-self-else-is_empty c =
    is_index-insert c.self.inside.lists (spelled c.args.row.now) c.remove.new.self c.self.invariant
    (λ e. absurd (let both : false ≡ true = sym c.if-is_empty.false ∙ c.is_empty.ensures.1 e in cc))
