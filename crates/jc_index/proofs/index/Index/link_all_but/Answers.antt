use Rattle.std.proofs.Common.{◌<◌, ◌≤◌, ◌&&◌, ◌||◌, not, length, sym, ap, subst, ◌∙◌, arith}
use Rattle.std.proofs.lemmas.List.{take_all}
use Rattle.jc_classes.specs.Names.{Name, same_name}
use Rattle.jc_classes.specs.NameLists.{has}
use Rattle.jc_index.specs.Indexes.{Between, UserLists, users_of}
use Rattle.jc_index.proofs.indexes.Lists.{on_err_any}
use Rattle.jc_index.proofs.indexes.Loops.{had_by_others, linked_more, linked_some}
use Rattle.jc_index.proofs.index.Index.link_all_but.Goals as goal

pub returns-then-is_same-clause-ok : goal.returns-then-is_same-clause-ok
returns-then-is_same-clause-ok c = λ n d.
    let names = c.args.names.now in
    had_by_others (has (users_of c.args.self.now n) d) (has names n) (same_name d c.args.user.now) (has c.args.others.now n)
    (λ e. ap (λ l. has l n) (sym (c.is_same.ensures c.if-is_same.true)) ∙ e)

pub returns-in_err-near-clause-err : goal.returns-in_err-near-clause-err
returns-in_err-near-clause-err c =
    let old = c.args.self.now in
    let names = c.args.names.now in
    let user = c.args.user.now in
    let some : (n d : Name) → Between (has (users_of old n) d) (same_name d user && (has names n && not (has c.args.others.now n))) (has (users_of c.link_unless.new.self n) d) =
    λ n d. subst (λ (u : UserLists). Between (has (users_of old n) d) (same_name d user && (has names n && not (has c.args.others.now n))) (has (users_of u n) d)) (sym c.in_err-near.ensures.err)
    (linked_some old c.loop-place.self names (λ n. not (has c.args.others.now n)) c.loop-place.place user c.loop-place.invariant n d) in
    on_err_any c.from_residual.result some

pub loop-place-preserved : goal.loop-place-preserved
loop-place-preserved c =
    let names = c.args.names.now in
    let place = c.loop-place.place in
    let within : place < length names = omega (arith, c.loop-place-test.true, c.len-place-end.ensures) in
    linked_more c.args.self.now c.loop-place.self c.link_unless.new.self names (λ n. not (has c.args.others.now n)) place c.name.result.now c.args.user.now
    within (sym c.name.ensures) c.loop-place.invariant c.in_ok-near.ensures.ok

pub returns-clause-ok : goal.returns-clause-ok
returns-clause-ok c = λ n d.
    let names = c.args.names.now in
    let past : length names ≤ c.loop-place.place = omega (arith, c.loop-place-test.false, c.len-place-end.ensures) in
    c.loop-place.invariant n d
    ∙ ap (λ l. has (users_of c.args.self.now n) d || (same_name d c.args.user.now && (has l n && not (has c.args.others.now n)))) (take_all c.loop-place.place names past)
