use Rattle.std.proofs.Common.{◌<◌, ◌≤◌, ◌&&◌, not, true, length, sym, ap, ◌∙◌, arith}
use Rattle.std.proofs.lemmas.List.{take_all}
use Rattle.jc_classes.specs.NameLists.{has}
use Rattle.jc_classes.specs.Names.{same_name}
use Rattle.jc_index.specs.Indexes.{users_of}
use Rattle.jc_index.proofs.indexes.Loops.{unlinked_more, turned_round, and_yes}
use Rattle.jc_index.proofs.index.Index.unlink_all.Goals as goal

pub loop-place-preserved : goal.loop-place-preserved
loop-place-preserved c =
    let names = c.args.names.now in
    let place = c.loop-place.place in
    let name = c.name.result.now in
    let user = c.args.user.now in
    let within : place < length names = omega (arith, c.loop-place-test.true, c.len-place-end.ensures) in
    unlinked_more c.args.self.now c.loop-place.self c.unlink.new.self names (λ n. true) place name user
    within (sym c.name.ensures) c.loop-place.invariant
    (λ n d. c.unlink.ensures n d ∙ turned_round (has (users_of c.loop-place.self n) d) (same_name n name) (same_name d user))

pub returns : goal.returns
returns c = λ n d.
    let names = c.args.names.now in
    let past : length names ≤ c.loop-place.place = omega (arith, c.loop-place-test.false, c.len-place-end.ensures) in
    c.loop-place.invariant n d
    ∙ ap (λ l. has (users_of c.args.self.now n) d && not (same_name d c.args.user.now && (has l n && true))) (take_all c.loop-place.place names past)
    ∙ ap (λ b. has (users_of c.args.self.now n) d && not (same_name d c.args.user.now && b)) (and_yes (has names n))
