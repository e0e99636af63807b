-- A borrowed row that is put among others, unless it is there.
use Rattle.std.proofs.Common.{◌≡◌, ◌∙◌, inl, inr, ◌⊎◌, List, [], ◌∷◌, ◌++◌, map, refl, sym, subst}
use Rattle.std.specs.declared.cmp.Ordering.{Ordering}
use Rattle.std.specs.declared.cmp.Ordering.TheVariants.{Less, Equal, Greater}
use Rattle.std.specs.Ordering.{match_ordering}
use Rattle.std.specs.BTreeSet.{insert_key}
use Rattle.jc_base.proofs.Membership.{Has, from_has, has-cases, has-left, has-right, has_from}
use Rattle.jc_report.specs.declared.row.Row.{Row}
use Rattle.jc_report.specs.contracts.row.RowOrd.TheImpl as row_order
use Rattle.jc_report.specs.Rows as rows
use Rattle.jc_report.specs.RowView.{row_lent}
use Rattle.jc_report.specs.inside.RowSets.{HoldSameRows}
use Rattle.jc_report.proofs.rows.DerivedRowOrder.{derived_row_order}
use Rattle.jc_report.proofs.rows.RowOrder.{tied_rows_same}

-- as a rows does that stands in front
abbrev IsOneMore : List rows.Row → List rows.Row → rows.Row → Type 0
IsOneMore new old row = (r : rows.Row) → (Has new r → Has old r ⊎ (row ≡ r)) × ((Has old r ⊎ (row ≡ r)) → Has new r)

in_front : (xs : List rows.Row) (row : rows.Row) → IsOneMore (row ∷ xs) xs row
in_front xs row r = (
  λ h. elim h [ inl e ↦ inr e | inr l ↦ inl l ],
  λ h. elim h [ inl l ↦ inr l | inr e ↦ inl e ],
)

is_there : (x : rows.Row) (xs : List rows.Row) (row : rows.Row) → row ≡ x → IsOneMore (x ∷ xs) (x ∷ xs) row
is_there x xs row e r = (
  λ h. inl h,
  λ h. elim h [ inl l ↦ l | inr f ↦ inl (sym e ∙ f) ],
)

further_back : (x : rows.Row) (new old : List rows.Row) (row : rows.Row) → IsOneMore new old row → IsOneMore (x ∷ new) (x ∷ old) row
further_back x new old row more r = (
  λ h. elim h [ inl e ↦ inl (inl e) | inr l ↦ elim ((more r).0 l) [ inl m ↦ inl (inr m) | inr e ↦ inr e ] ],
  λ h. elim h [ inl l ↦ elim l [ inl e ↦ inl e | inr m ↦ inr ((more r).1 (inl m)) ] | inr e ↦ inr ((more r).1 (inr e)) ],
)

one_more : (old : List Row) (row : Row) → IsOneMore (map row_lent (insert_key row_order.ghosts.cmp old row)) (map row_lent old) (row_lent row)
one_more [] row = in_front [] (row_lent row)
one_more (x ∷ xs) row = by (one_more xs row) (row_order.ghosts.cmp row x) refl
  where
    by : IsOneMore (map row_lent (insert_key row_order.ghosts.cmp xs row)) (map row_lent xs) (row_lent row) → (o : Ordering) → row_order.ghosts.cmp row x ≡ o
        → IsOneMore (map row_lent (match_ordering o (row ∷ x ∷ xs) (x ∷ xs) (x ∷ insert_key row_order.ghosts.cmp xs row))) (map row_lent (x ∷ xs)) (row_lent row)
    by more Less e = in_front (map row_lent (x ∷ xs)) (row_lent row)
    by more Equal e = is_there (row_lent x) (map row_lent xs) (row_lent row) (tied_rows_same (row_lent row) (row_lent x) (sym (derived_row_order row x) ∙ e))
    by more Greater e = further_back (row_lent x) _ (map row_lent xs) (row_lent row) more

pub inserted : (old new : List Row) (row : Row) → new ≡ insert_key row_order.ghosts.cmp old row → HoldSameRows (map row_lent new) (map row_lent old ++ row_lent row ∷ [])
inserted old new row is r =
    let more = subst (λ (xs : List Row). IsOneMore (map row_lent xs) (map row_lent old) (row_lent row)) (sym is) (one_more old row) r in (
      λ h. elim (more.0 (has_from (map row_lent new) r h)) [
        | inl l ↦ from_has _ r (has-left (map row_lent old) (row_lent row ∷ []) r l)
        | inr e ↦ from_has _ r (has-right (map row_lent old) (row_lent row ∷ []) r (inl e))
      ],
      λ h. from_has (map row_lent new) r (more.1 (elim (has-cases (map row_lent old) (row_lent row ∷ []) r (has_from (map row_lent old ++ row_lent row ∷ []) r h)) [
        | inl l ↦ inl l
        | inr (inl e) ↦ inr e
        | inr (inr none) ↦ absurd none
      ])),
    )
