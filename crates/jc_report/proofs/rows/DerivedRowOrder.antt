-- The derived order of borrowed rows is the order of rows.
use Rattle.std.proofs.Common.{◌≡◌, ◌∙◌, true, refl, ap, sym}
use Rattle.std.specs.declared.cmp.Ordering.TheVariants.{Equal}
use Rattle.std.specs.Ordering.{nat_cmp, ordering_then}
use Rattle.std.specs.Cmp.{Equal-is}
use Rattle.jc_classes.specs.Names.{name_cmp}
use Rattle.jc_classes.specs.declared.reference.ReferenceKind.{ReferenceKind}
use Rattle.jc_classes.specs.declared.reference.ReferenceKind.TheVariants as kinds
use Rattle.jc_classes.specs.contracts.reference.ReferenceKindOrd.TheImpl as kind_order
use Rattle.jc_report.specs.declared.row.Row.{Row}
use Rattle.jc_report.specs.contracts.row.RowOrd.TheImpl as row_order
use Rattle.jc_report.specs.contracts.row.RowOrd.TheImpl.Laws as laws
use Rattle.jc_report.specs.contracts.row.RowPartialEq.TheImpl as row_test
use Rattle.jc_report.specs.RowView.{row_lent}
use Rattle.jc_report.specs.Rows.{kind_number, row_cmp}
use Rattle.jc_report.proofs.rows.RowOrder.{tied_rows_same}

derived_kind_order : (x y : ReferenceKind) → kind_order.ghosts.cmp x y ≡ nat_cmp (kind_number x) (kind_number y)
derived_kind_order kinds.Class kinds.Class = refl
derived_kind_order kinds.Class kinds.Field = refl
derived_kind_order kinds.Class kinds.Method = refl
derived_kind_order kinds.Class kinds.InterfaceMethod = refl
derived_kind_order kinds.Field kinds.Class = refl
derived_kind_order kinds.Field kinds.Field = refl
derived_kind_order kinds.Field kinds.Method = refl
derived_kind_order kinds.Field kinds.InterfaceMethod = refl
derived_kind_order kinds.Method kinds.Class = refl
derived_kind_order kinds.Method kinds.Field = refl
derived_kind_order kinds.Method kinds.Method = refl
derived_kind_order kinds.Method kinds.InterfaceMethod = refl
derived_kind_order kinds.InterfaceMethod kinds.Class = refl
derived_kind_order kinds.InterfaceMethod kinds.Field = refl
derived_kind_order kinds.InterfaceMethod kinds.Method = refl
derived_kind_order kinds.InterfaceMethod kinds.InterfaceMethod = refl

pub derived_row_order : (a b : Row) → row_order.ghosts.cmp a b ≡ row_cmp (row_lent a) (row_lent b)
derived_row_order a b =
    ap (λ o. ordering_then (name_cmp a.class.now b.class.now) (ordering_then o (ordering_then (name_cmp a.name.now b.name.now) (name_cmp a.descriptor.now b.descriptor.now))))
    (derived_kind_order a.kind b.kind)

-- the derived test holds of equal rows alone
pub derived_row_test : (a b : Row) → row_test.ghosts.eq a b ≡ true → row_lent a ≡ row_lent b
derived_row_test a b e =
    let tie : row_order.ghosts.cmp a b ≡ Equal = (Equal-is (row_order.ghosts.cmp a b)).0 (sym (laws.matches_eq-law a b) ∙ e) in
    tied_rows_same (row_lent a) (row_lent b) (sym (derived_row_order a b) ∙ tie)
