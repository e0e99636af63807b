-- The rows of references, one more at a time.
use Rattle.std.proofs.Common.{◌≡◌, ◌∙◌, ℕ, zero, suc, ◌+◌, true, false, List, [], ◌∷◌, ◌++◌, drop, map, Some, None, refl, ap, append_assoc}
use Rattle.std.specs.Prelude.{slice_get}
use Rattle.std.proofs.lemmas.List.{drop-drop, drop_more, map-append}
use Rattle.std.proofs.lemmas.Bool.{cond-true, cond-false}
use Rattle.std.proofs.lemmas.Option.{get_or_from_slice_get, slice_get_within}
use Rattle.jc_classes.specs.Facts.{Reference}
use Rattle.jc_classes.specs.Resolution.{Answer}
use Rattle.jc_report.specs.ClassRows.{is_required, reference_row, rows_required}
use Rattle.jc_report.specs.Rows as rows

first_of : {X : Type 0} (xs : List X) (n : ℕ) (x : X) → slice_get xs n ≡ Some x → drop n xs ≡ x ∷ drop (n + 1) xs
first_of xs n x e = drop_more xs n x (slice_get_within xs n x e) ∙ ap (λ y. y ∷ drop (n + 1) xs) (get_or_from_slice_get xs n x x e)

-- a row that is added stands before those that are left
pub added : {X : Type 0} (lent : X → rows.Row) (done grown : List X) (r : X) (row : rows.Row) (left : List rows.Row) → grown ≡ done ++ r ∷ [] → lent r ≡ row
    → map lent grown ++ left ≡ map lent done ++ (row ∷ left)
added lent done grown r row left e f =
    ap (λ xs. map lent xs ++ left) e
    ∙ ap (λ xs. xs ++ left) (map-append lent done (r ∷ []))
    ∙ append_assoc (map lent done) (lent r ∷ []) left
    ∙ ap (λ x. map lent done ++ (x ∷ left)) f

pub left_required : (refs : List Reference) (n : ℕ) (r : Reference) → slice_get refs n ≡ Some r → (a : Answer) (answers : List Answer) → is_required a ≡ true
    → rows_required (drop n refs) (a ∷ answers) ≡ reference_row r ∷ rows_required (drop (n + 1) refs) answers
left_required refs n r at a answers is =
    ap (λ xs. rows_required xs (a ∷ answers)) (first_of refs n r at)
    ∙ cond-true (is_required a) (reference_row r ∷ rows_required (drop (n + 1) refs) answers) (rows_required (drop (n + 1) refs) answers) is

passed_over : (refs : List Reference) (a : Answer) (answers : List Answer) → is_required a ≡ false → rows_required refs (a ∷ answers) ≡ rows_required (drop 1 refs) answers
passed_over [] a answers is = refl
passed_over (r ∷ refs) a answers is = cond-false (is_required a) (reference_row r ∷ rows_required refs answers) (rows_required refs answers) is

pub left_resolved : (refs : List Reference) (n : ℕ) (a : Answer) (answers : List Answer) → is_required a ≡ false → rows_required (drop n refs) (a ∷ answers) ≡ rows_required (drop (n + 1) refs) answers
left_resolved refs n a answers is = passed_over (drop n refs) a answers is ∙ ap (λ xs. rows_required xs answers) (drop-drop 1 n refs)

pub past_references : (refs : List Reference) (answers : List Answer) (n : ℕ) → slice_get refs n ≡ None → rows_required (drop n refs) answers ≡ []
past_references [] answers zero e = refl
past_references [] answers (suc n) e = refl
past_references (r ∷ refs) answers zero e = absurd cc
past_references (r ∷ refs) answers (suc n) e = past_references refs answers n e

pub no_answers : (refs : List Reference) → rows_required refs [] ≡ []
no_answers [] = refl
no_answers (r ∷ rs) = refl
