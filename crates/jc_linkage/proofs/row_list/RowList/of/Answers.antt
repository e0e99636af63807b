use Rattle.std.proofs.Common.{◌∙◌, List, map, ap, subst}
use Rattle.jc_classes.specs.Facts.{Reference}
use Rattle.jc_classes.specs.NameLists.{has}
use Rattle.jc_report.specs.ClassRows.{rows_required}
use Rattle.jc_report.specs.RequiredRows.{AreOf, rows_numbered}
use Rattle.jc_report.specs.RowKeys.{row_key}
use Rattle.jc_linkage.proofs.held.Places.{some_one}
use Rattle.jc_linkage.proofs.row_list.RowList.of.Goals as goal

pub invariant_of-result : goal.invariant_of-result
invariant_of-result c =
    let rows = c.in_ok-rows.rows.items in
    record {
      rises = c.in_ok-rows.ensures.rises;
      of = λ own e. subst (λ (r : List Reference). AreOf r rows) (some_one e) c.in_ok-rows.ensures.of;
    }

pub returns : goal.returns
returns c = λ key.
    c.in_ok-rows.ensures.same key
    ∙ ap (λ numbers. has (map row_key (rows_numbered c.in_ok-references.references numbers)) key) c.deref.ensures.value
    ∙ ap (λ rows. has (map row_key rows) key) (c.in_ok-numbers.ensures ∙ ap (λ r. rows_required r c.args.part.now.answers) c.in_ok-references.ensures)
