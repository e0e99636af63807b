use Rattle.std.proofs.Common.{◌<◌, ◌≤◌, ◌&&◌, not, length, sym, ap, ◌∙◌, arith}
use Rattle.std.proofs.lemmas.List.{take_all}
use Rattle.jc_classes.specs.NameLists.{has}
use Rattle.jc_classes.specs.Names.{same_name}
use Rattle.jc_index.specs.Indexes.{users_of}
use Rattle.jc_index.proofs.indexes.Loops.{unless_had, unlinked_more}
use Rattle.jc_index.proofs.index.Index.unlink_all_but.Goals as goal

pub returns-then-is_same : goal.returns-then-is_same
returns-then-is_same c = λ n d.
    let names = c.args.names.now in
    unless_had (has (users_of c.args.self.now n) d) (has names n) (same_name d c.args.user.now) (has c.args.others.now n)
    (λ e. ap (λ l. has l n) (sym (c.is_same.ensures c.if-is_same.true)) ∙ e)

pub loop-place-preserved : goal.loop-place-preserved
loop-place-preserved c =
    let names = c.args.names.now in
    let place = c.loop-place.place in
    let within : place < length names = omega (arith, c.loop-place-test.true, c.len-place-end.ensures) in
    unlinked_more c.args.self.now c.loop-place.self c.unlink_unless-near.new.self names (λ n. not (has c.args.others.now n)) place c.name.result.now c.args.user.now
    within (sym c.name.ensures) c.loop-place.invariant c.unlink_unless-near.ensures

pub returns : goal.returns
returns c = λ n d.
    let names = c.args.names.now in
    let past : length names ≤ c.loop-place.place = omega (arith, c.loop-place-test.false, c.len-place-end.ensures) in
    c.loop-place.invariant n d
    ∙ ap (λ l. has (users_of c.args.self.now n) d && not (same_name d c.args.user.now && (has l n && not (has c.args.others.now n)))) (take_all c.loop-place.place names past)
