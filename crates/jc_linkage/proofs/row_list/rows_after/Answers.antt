use Rattle.std.proofs.Common.{◌∙◌, List, sym, subst}
use Rattle.std.specs.List.Sorted.{IsStrictlySortedBy}
use Rattle.jc_classes.specs.Names.{name_cmp}
use Rattle.jc_report.specs.RequiredRows.{AreOf, spelled_all}
use Rattle.jc_report.specs.declared.required_row.RequiredRow.{RequiredRow}
use Rattle.jc_linkage.proofs.required_rows.NumberedRows.{made_same}
use Rattle.jc_linkage.proofs.row_list.rows_after.Goals as goal

pub changed-requires : goal.changed-requires
changed-requires c = record {
  of = subst (AreOf c.args.references.now) (sym c.rows.ensures.rows) (c.is_of.ensures c.if-is_of.true);
  rises = subst (λ (rows : List RequiredRow). IsStrictlySortedBy name_cmp (spelled_all rows)) (sym c.rows.ensures.rows) c.rows.ensures.rises;
}

pub returns-in_ok-rows_of-in_default : goal.returns-in_ok-rows_of-in_default
returns-in_ok-rows_of-in_default c =
    let refs = c.args.references.now in
    let rows = c.in_ok-rows_of-in_default in
    record {
      rises = c.in_order.ensures.rises;
      of = c.in_order.ensures.of refs rows.ensures.of;
      same = λ key. c.in_order.ensures.same key ∙ made_same refs c.args.numbers.now rows.field-0.items rows.ensures.rows key;
    }
