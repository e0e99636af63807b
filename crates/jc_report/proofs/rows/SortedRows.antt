-- Borrowed rows that are apart and sorted are rows in their order.
use Rattle.std.proofs.Common.{◌≡◌, ◌∙◌, List, [], ◌∷◌, ◌++◌, map, sym, subst}
use Rattle.std.specs.declared.cmp.Ordering.TheVariants.{Less}
use Rattle.std.specs.List.{Contains, AllByRecursion}
use Rattle.std.specs.List.Sorted.{IsStrictlySortedBy}
use Rattle.jc_base.proofs.Membership.{from_has, has-from_map, has-map, has_from}
use Rattle.jc_report.specs.declared.row.Row.{Row}
use Rattle.jc_report.specs.contracts.row.RowOrd.TheImpl as row_order
use Rattle.jc_report.specs.RowView.{row_lent}
use Rattle.jc_report.specs.Rows as rows
use Rattle.jc_report.specs.Rows.{AreRows, row_cmp}
use Rattle.jc_report.proofs.rows.DerivedRowOrder.{derived_row_order}

contains-map : (xs : List Row) (x : Row) → Contains xs x → Contains (map row_lent xs) (row_lent x)
contains-map xs x h = from_has (map row_lent xs) (row_lent x) (has-map row_lent xs x (has_from xs x h))

contains-from_map : (xs : List Row) (r : rows.Row) → Contains (map row_lent xs) r → (x : Row) × Contains xs x × (row_lent x ≡ r)
contains-from_map xs r h = let o = has-from_map row_lent xs r (has_from (map row_lent xs) r h) in (o.0, from_has xs o.0 o.1, o.2)

above : (x : Row) (xs : List Row) → AllByRecursion (λ y. row_order.ghosts.cmp x y ≡ Less) xs → AllByRecursion (λ r. row_cmp (row_lent x) r ≡ Less) (map row_lent xs)
above x [] h = tt
above x (y ∷ xs) h = (sym (derived_row_order x y) ∙ h.0, above x xs h.1)

rises : (xs : List Row) → IsStrictlySortedBy row_order.ghosts.cmp xs → IsStrictlySortedBy row_cmp (map row_lent xs)
unfolding IsStrictlySortedBy
rises [] h = tt
rises (x ∷ xs) h = (above x xs h.0, rises xs h.1)

-- rows in their order, copied into an empty list
pub copied_rows : (held before copied : List Row) → IsStrictlySortedBy row_order.ghosts.cmp held → map row_lent before ≡ [] → copied ≡ before ++ held
    → AreRows (map row_lent copied) (Contains (map row_lent held))
copied_rows held [] copied up none is = subst (λ (rows : List Row). AreRows (map row_lent rows) (Contains (map row_lent held))) (sym is) (record {
  rises = rises held up;
  sound = λ r h. h;
  complete = λ r h. h;
})
copied_rows held (x ∷ xs) copied up none is = absurd cc
