use Rattle.std.proofs.Common.{◌≡◌, true, false, is_ok, sym, ap, ◌∙◌}
use Rattle.jc_classes.specs.NameLists.{has}
use Rattle.jc_classes.specs.Names.{same_name}
use Rattle.jc_classes.proofs.worlds.NameTests.{same_is}
use Rattle.jc_index.specs.Indexes.{users_of}
use Rattle.jc_index.proofs.indexes.Loops.{unless_had, unless_lacked}
use Rattle.jc_report.specs.RequiredRows.{spelled, spelled_all}
use Rattle.jc_linkage.proofs.row_index.RowIndex.unlink_unless.Goals as goal

pub returns-in-Ok : goal.returns-in-Ok
returns-in-Ok c = λ n d.
    let name = spelled c.args.row.now in
    let others = spelled_all c.args.others.now in
    let had : has others name ≡ true = sym c.find_near.ensures ∙ ap is_ok c.in-Ok.is in
    unless_had (has (users_of c.args.self.now n) d) (same_name n name) (same_name d c.args.user.now) (has others n) (λ e. ap (has others) (same_is n name e) ∙ had)

pub returns-in-Err : goal.returns-in-Err
returns-in-Err c = λ n d.
    let old = c.args.self.now in
    let name = spelled c.args.row.now in
    let others = spelled_all c.args.others.now in
    let lacked : has others name ≡ false = sym c.find_near.ensures ∙ ap is_ok c.in-Err.is in
    c.unlink.ensures n d ∙ unless_lacked (has (users_of old n) d) (same_name n name) (same_name d c.args.user.now) (has others n) (λ e. ap (has others) (same_is n name e) ∙ lacked)
