-- The rows of the references from a number on: that of the reference of the number, if it is required, and those after it.
use Rattle.std.proofs.Common.{◌≡◌, ◌∙◌, ◌≤◌, ℕ, zero, suc, ◌+◌, Bool, true, false, List, [], ◌∷◌, ◌++◌, drop, length, Some, None, refl, sym, ap, arith}
use Rattle.std.specs.Prelude.{if◌then◌else◌}
use Rattle.std.specs.Option.{option_to_list}
use Rattle.std.proofs.lemmas.List.{drop_all}
use Rattle.jc_classes.specs.Facts.{Reference}
use Rattle.jc_classes.specs.Resolution.{Answer}
use Rattle.jc_report.specs.ClassRows.{is_required, reference_row, rows_required}
use Rattle.jc_report.specs.Rows.{Row}
use Rattle.jc_report.specs.inside.RequiredLeft.{row_at, rows_from}
use Rattle.jc_report.proofs.rows.ReferenceRows.{no_answers}

one : (b : Bool) (row : Row) (rows : List Row) → (if b then row ∷ rows else rows) ≡ option_to_list (if b then Some row else None) ++ rows
one true row rows = refl
one false row rows = refl

-- none after the last answer
pub none_from : (rs : List Reference) (answers : List Answer) (n : ℕ) → length answers ≤ n → rows_from rs answers n ≡ []
none_from rs answers n past = ap (rows_required (drop n rs)) (drop_all n answers past) ∙ no_answers (drop n rs)

no_row : (rs : List Reference) (n : ℕ) → row_at rs [] n ≡ None
no_row [] zero = refl
no_row [] (suc n) = refl
no_row (r ∷ rs) zero = refl
no_row (r ∷ rs) (suc n) = no_row rs n

one_on : (rs : List Reference) (answers : List Answer) (n : ℕ) → rows_from rs answers n ≡ option_to_list (row_at rs answers n) ++ rows_from rs answers (suc n)
one_on [] answers zero = refl
one_on [] answers (suc n) = refl
one_on (r ∷ rs) [] n =
    none_from (r ∷ rs) [] n (omega arith)
    ∙ sym (ap (λ o. option_to_list o ++ rows_from (r ∷ rs) [] (suc n)) (no_row (r ∷ rs) n) ∙ none_from (r ∷ rs) [] (suc n) (omega arith))
one_on (r ∷ rs) (a ∷ answers) zero = one (is_required a) (reference_row r) (rows_required rs answers)
one_on (r ∷ rs) (a ∷ answers) (suc n) = one_on rs answers n

pub one_more : (rs : List Reference) (answers : List Answer) (n : ℕ) → rows_from rs answers n ≡ option_to_list (row_at rs answers n) ++ rows_from rs answers (n + 1)
one_more rs answers n =
    let next : suc n ≡ n + 1 = omega arith in
    one_on rs answers n ∙ ap (λ k. option_to_list (row_at rs answers n) ++ rows_from rs answers k) next
