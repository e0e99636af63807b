use Rattle.std.proofs.Common.{◌≡◌, ◌<◌, true, length, ◌∙◌, arith}
use Rattle.std.proofs.lemmas.List.{length-map}
use Rattle.jc_classes.specs.NameLists.{has}
use Rattle.jc_classes.specs.Names.{same_name}
use Rattle.jc_classes.specs.Numbers.{name_at}
use Rattle.jc_index.specs.Indexes.{users_of}
use Rattle.jc_index.proofs.indexes.Loops.{unlinked_more, turned_round}
use Rattle.jc_report.specs.RequiredRows.{spelled, spelled_all}
use Rattle.jc_linkage.proofs.required_rows.RowLists.{held_row}
use Rattle.jc_linkage.proofs.row_index.RowIndex.unlink_all.Goals as goal

pub loop-row-preserved : goal.loop-row-preserved
loop-row-preserved c =
    let items = c.rows-row-items.result.now in
    let i = c.loop-row.row-index in
    let name = spelled c.row-item.result in
    let user = c.args.user.now in
    let within : i < length items = omega arith in
    let named : name_at (spelled_all items) i ≡ name = held_row items i c.row-item.result within c.row-item.is in
    unlinked_more c.args.self.now c.loop-row.self c.unlink.new.self (spelled_all items) (λ n. true) i name user
    (omega (arith, within, length-map items spelled)) named c.loop-row.invariant
    (λ n d. c.unlink.ensures n d ∙ turned_round (has (users_of c.loop-row.self n) d) (same_name n name) (same_name d user))
