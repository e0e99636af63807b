-- Lists that hold the same rows.
use Rattle.std.proofs.Common.{◌≡◌, ◌∙◌, inl, inr, List, [], ◌∷◌, ◌++◌, ap, append-nil, append_assoc, subst}
use Rattle.std.specs.List.{Contains}
use Rattle.jc_base.proofs.Membership.{from_has, has-cases, has-left, has-right, has_from}
use Rattle.jc_report.specs.Rows.{Row}
use Rattle.jc_report.specs.inside.RowSets.{HoldSameRows}

pub same_rows_itself : (xs : List Row) → HoldSameRows xs xs
same_rows_itself xs row = (λ h. h, λ h. h)

pub same_rows_through : (xs ys zs : List Row) → HoldSameRows xs ys → HoldSameRows ys zs → HoldSameRows xs zs
same_rows_through xs ys zs f g row = (λ h. (g row).0 ((f row).0 h), λ h. (f row).1 ((g row).1 h))

among_more : (xs ys more : List Row) → ((row : Row) → Contains xs row → Contains ys row) → (row : Row) → Contains (xs ++ more) row → Contains (ys ++ more) row
among_more xs ys more f row h =
    from_has (ys ++ more) row
    (elim (has-cases xs more row (has_from (xs ++ more) row h)) [
      | inl l ↦ has-left ys more row (has_from ys row (f row (from_has xs row l)))
      | inr r ↦ has-right ys more row r
    ])

-- with more rows behind them
pub same_rows_more : (xs ys more : List Row) → HoldSameRows xs ys → HoldSameRows (xs ++ more) (ys ++ more)
same_rows_more xs ys more f row = (among_more xs ys more (λ r. (f r).0) row, among_more ys xs more (λ r. (f r).1) row)

-- a row that is added stands before those that are left
pub same_rows_added : (old new left : List Row) (given row : Row) → HoldSameRows new (old ++ given ∷ []) → given ≡ row → HoldSameRows (new ++ left) (old ++ (row ∷ left))
same_rows_added old new left given row same is =
    subst (HoldSameRows (new ++ left)) (append_assoc old (given ∷ []) left ∙ ap (λ r. old ++ (r ∷ left)) is) (same_rows_more new (old ++ given ∷ []) left same)

-- where nothing is left
pub same_rows_end : (xs left ys : List Row) → left ≡ [] → HoldSameRows (xs ++ left) ys → HoldSameRows xs ys
same_rows_end xs left ys none = subst (λ (rows : List Row). HoldSameRows rows ys) (ap (λ l. xs ++ l) none ∙ append-nil xs)
