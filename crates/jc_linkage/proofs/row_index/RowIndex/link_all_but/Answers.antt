use Rattle.std.proofs.Common.{◌≡◌, ◌<◌, ◌≤◌, ◌&&◌, ◌||◌, not, List, length, sym, ap, subst, ◌∙◌, arith}
use Rattle.std.proofs.lemmas.List.{length-map, take_all}
use Rattle.jc_classes.specs.Names.{Name, same_name}
use Rattle.jc_classes.specs.Numbers.{name_at}
use Rattle.jc_classes.specs.NameLists.{has}
use Rattle.jc_index.specs.Indexes.{Between, UserLists, users_of}
use Rattle.jc_index.proofs.indexes.Lists.{on_err_any}
use Rattle.jc_index.proofs.indexes.Loops.{linked_more, linked_some}
use Rattle.jc_report.specs.RequiredRows.{spelled, spelled_all}
use Rattle.jc_report.specs.declared.required_row.RequiredRow.{RequiredRow}
use Rattle.jc_linkage.proofs.required_rows.RowLists.{held_row, of_each}
use Rattle.jc_linkage.proofs.row_index.RowIndex.link_all_but.Goals as goal

pub returns-in_err-near-clause-err : goal.returns-in_err-near-clause-err
returns-in_err-near-clause-err c =
    let old = c.args.self.now in
    let names = spelled_all c.rows-row-items.result.now in
    let user = c.args.user.now in
    let some : (n d : Name) → Between (has (users_of old n) d) (same_name d user && (has (spelled_all c.args.rows.now) n && not (has (spelled_all c.args.others.now) n))) (has (users_of c.link_unless.new.self n) d) =
    λ n d. subst (λ (u : UserLists). Between (has (users_of old n) d) (same_name d user && (has (spelled_all c.args.rows.now) n && not (has (spelled_all c.args.others.now) n))) (has (users_of u n) d)) (sym c.in_err-near.ensures.err)
    (subst (λ (l : List RequiredRow). Between (has (users_of old n) d) (same_name d user && (has (spelled_all l) n && not (has (spelled_all c.args.others.now) n))) (has (users_of c.loop-row.self n) d)) c.rows-row-items.ensures.rows
    (linked_some old c.loop-row.self names (λ n. not (has (spelled_all c.args.others.now) n)) c.loop-row.row-index user c.loop-row.invariant n d)) in
    on_err_any c.from_residual.result some

pub link_unless-requires : goal.link_unless-requires
link_unless-requires c = λ like. of_each c.args.rows.now c.args.others.now (c.is_like-is_like.ensures like) c.rows-row-items.result.now c.rows-row-items.ensures.rows
    c.loop-row.row-index c.row-item.result (omega (arith, c.loop-row-test.true)) c.row-item.is

pub loop-row-preserved : goal.loop-row-preserved
loop-row-preserved c =
    let items = c.rows-row-items.result.now in
    let place = c.loop-row.row-index in
    let name = spelled c.row-item.result in
    let within : place < length items = omega (arith, c.loop-row-test.true) in
    let named : name_at (spelled_all items) place ≡ name = held_row items place c.row-item.result within c.row-item.is in
    linked_more c.args.self.now c.loop-row.self c.link_unless.new.self (spelled_all items) (λ n. not (has (spelled_all c.args.others.now) n)) place name c.args.user.now
    (omega (arith, within, length-map items spelled)) named c.loop-row.invariant c.in_ok-near.ensures.ok

pub returns-clause-ok : goal.returns-clause-ok
returns-clause-ok c = λ n d.
    let items = c.rows-row-items.result.now in
    let names = spelled_all items in
    let past : length names ≤ c.loop-row.row-index = omega (arith, c.loop-row-test.false, length-map items spelled) in
    c.loop-row.invariant n d
    ∙ ap (λ l. has (users_of c.args.self.now n) d || (same_name d c.args.user.now && (has l n && not (has (spelled_all c.args.others.now) n)))) (take_all c.loop-row.row-index names past ∙ ap spelled_all c.rows-row-items.ensures.rows)
