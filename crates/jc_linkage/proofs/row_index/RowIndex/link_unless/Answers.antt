use Rattle.std.proofs.Common.{◌≡◌, true, false, is_ok, sym, ap, ◌∙◌}
use Rattle.jc_classes.specs.NameLists.{has}
use Rattle.jc_classes.specs.Names.{same_name}
use Rattle.jc_classes.proofs.worlds.NameTests.{same_is}
use Rattle.jc_index.specs.Indexes.{users_of}
use Rattle.jc_index.proofs.indexes.Loops.{had_by_others, lacked_by_others}
use Rattle.jc_report.specs.RequiredRows.{spelled, spelled_all}
use Rattle.jc_linkage.proofs.row_index.RowIndex.link_unless.Goals as goal

pub returns-in-Ok-clause-ok : goal.returns-in-Ok-clause-ok
returns-in-Ok-clause-ok c = λ n d.
    let name = spelled c.args.row.now in
    let others = spelled_all c.args.others.now in
    let had : has others name ≡ true = sym c.find_near.ensures ∙ ap is_ok c.in-Ok.is in
    had_by_others (has (users_of c.args.self.now n) d) (same_name n name) (same_name d c.args.user.now) (has others n) (λ e. ap (has others) (same_is n name e) ∙ had)

pub returns-in_ok-link-in-Err-clause-ok : goal.returns-in_ok-link-in-Err-clause-ok
returns-in_ok-link-in-Err-clause-ok c = λ n d.
    let name = spelled c.args.row.now in
    let others = spelled_all c.args.others.now in
    let lacked : has others name ≡ false = sym c.find_near.ensures ∙ ap is_ok c.in-Err.is in
    c.in_ok-link-in-Err.ensures.ok n d
    ∙ lacked_by_others (has (users_of c.args.self.now n) d) (same_name n name) (same_name d c.args.user.now) (has others n) (λ e. ap (has others) (same_is n name e) ∙ lacked)
