use Rattle.std.proofs.Common.{◌≡◌, ◌<◌, ◌≤◌, ◌&&◌, not, length, ap, ◌∙◌, arith}
use Rattle.std.proofs.lemmas.List.{length-map, take_all}
use Rattle.jc_classes.specs.NameLists.{has}
use Rattle.jc_classes.specs.Names.{same_name}
use Rattle.jc_classes.specs.Numbers.{name_at}
use Rattle.jc_index.specs.Indexes.{users_of}
use Rattle.jc_index.proofs.indexes.Loops.{unlinked_more}
use Rattle.jc_report.specs.RequiredRows.{spelled, spelled_all}
use Rattle.jc_linkage.proofs.required_rows.RowLists.{held_row, of_each}
use Rattle.jc_linkage.proofs.row_index.RowIndex.unlink_all_but.Goals as goal

pub unlink_unless-near-requires : goal.unlink_unless-near-requires
unlink_unless-near-requires c = λ like. of_each c.args.rows.now c.args.others.now (c.is_like-is_like.ensures like) c.rows-row-items.result.now c.rows-row-items.ensures.rows
    c.loop-row.row-index c.row-item.result (omega (arith, c.loop-row-test.true)) c.row-item.is

pub loop-row-preserved : goal.loop-row-preserved
loop-row-preserved c =
    let items = c.rows-row-items.result.now in
    let place = c.loop-row.row-index in
    let name = spelled c.row-item.result in
    let within : place < length items = omega (arith, c.loop-row-test.true) in
    let named : name_at (spelled_all items) place ≡ name = held_row items place c.row-item.result within c.row-item.is in
    unlinked_more c.args.self.now c.loop-row.self c.unlink_unless-near.new.self (spelled_all items) (λ n. not (has (spelled_all c.args.others.now) n)) place name c.args.user.now
    (omega (arith, within, length-map items spelled)) named c.loop-row.invariant c.unlink_unless-near.ensures

pub returns : goal.returns
returns c = λ n d.
    let items = c.rows-row-items.result.now in
    let names = spelled_all items in
    let past : length names ≤ c.loop-row.row-index = omega (arith, c.loop-row-test.false, length-map items spelled) in
    c.loop-row.invariant n d
    ∙ ap (λ l. has (users_of c.args.self.now n) d && not (same_name d c.args.user.now && (has l n && not (has (spelled_all c.args.others.now) n)))) (take_all c.loop-row.row-index names past ∙ ap spelled_all c.rows-row-items.ensures.rows)
