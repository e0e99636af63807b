use Rattle.std.proofs.Common.{◌≡◌, ◌&&◌, ◌||◌, not, ap, ◌∙◌, subst}
use Rattle.std.proofs.lemmas.Result.{on_ok_weaker, on_err_weaker}
use Rattle.jc_classes.specs.NameLists.{has}
use Rattle.jc_classes.specs.Names.{Name, same_name}
use Rattle.jc_index.specs.Indexes.{Between, users_of}
use Rattle.jc_index.proofs.indexes.Loops.{no_others}
use Rattle.jc_report.specs.RequiredRows.{spelled_all}
use Rattle.jc_linkage.proofs.row_index.RowIndex.link_all.Goals as goal

pub returns-clause-ok : goal.returns-clause-ok
returns-clause-ok c =
    let old = c.args.self.now in
    let new = c.link_all_but.new.self in
    let user = c.args.user.now in
    let names = spelled_all c.args.rows.now in
    let none = spelled_all c.new-none.result in
    on_ok_weaker {P = (n d : Name) → has (users_of new n) d ≡ (has (users_of old n) d || (same_name d user && (has names n && not (has none n))))} c.link_all_but.result
    (λ h n d. h n d ∙ ap (λ b. has (users_of old n) d || (same_name d user && b)) (no_others names none n (ap spelled_all c.new-none.ensures)))
    c.link_all_but.ensures.ok

pub returns-clause-err : goal.returns-clause-err
returns-clause-err c =
    let old = c.args.self.now in
    let new = c.link_all_but.new.self in
    let user = c.args.user.now in
    let names = spelled_all c.args.rows.now in
    let none = spelled_all c.new-none.result in
    on_err_weaker {P = (n d : Name) → Between (has (users_of old n) d) (same_name d user && (has names n && not (has none n))) (has (users_of new n) d)} c.link_all_but.result
    (λ h n d. subst (λ b. Between (has (users_of old n) d) (same_name d user && b) (has (users_of new n) d)) (no_others names none n (ap spelled_all c.new-none.ensures)) (h n d))
    c.link_all_but.ensures.err
