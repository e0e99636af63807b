-- The rows of the files by their claims, and which of them are unreadable.
use Rattle.std.proofs.Common.{◌≡◌, ℕ, true, false, cond, not, ◌||◌, List, [], ◌∷◌, map, Option, Some, None, Result, Ok, Err, refl, sym, ap}
use Rattle.std.specs.FinMap as fin
use Rattle.std.specs.List.{list_any}
use Rattle.std.specs.Result.{is_ok}
use Rattle.jc_base.specs.Bytes.{same_bytes}
use Rattle.jc_view.specs.declared.parse_error.ParseError.{ParseError}
use Rattle.jc_view.specs.Outcome.{class_named}
use Rattle.jc_report.specs.Files.{Files}
use Rattle.jc_report.specs.FileRows.{Class, Shadowed, winner, state_by, state_of, row_of, rows, is_unreadable, is_unreadable_state}
use Rattle.jc_edits.specs.inside.Claims.{PathsByName, AreClaims, claimed_state, claimed_row}
use Rattle.jc_edits.proofs.holding.ClaimsWin.{claims_win}

same_state : (claims : PathsByName) (f : Files) → AreClaims claims f → (path : List ℕ) (outcome : Result (List ℕ) ParseError) → claimed_state claims path outcome ≡ state_of f path outcome
same_state claims f are path (Ok name) = ap (state_by path name) (sym (claims_win claims f are name))
same_state claims f are path (Err refusal) = refl

same_rows : (claims : PathsByName) (f : Files) → AreClaims claims f → (es : List (List ℕ × List ℕ)) → map (claimed_row claims) es ≡ map (row_of f) es
same_rows claims f are [] = refl
same_rows claims f are (e ∷ es) = λ i. record { path = e.0; state = same_state claims f are e.0 (class_named e.1) i } ∷ same_rows claims f are es i

pub claimed_rows : (claims : PathsByName) (f : Files) → AreClaims claims f → map (claimed_row claims) (fin.entries f) ≡ rows f
claimed_rows claims f are = same_rows claims f are (fin.entries f)

readable_by : (path name : List ℕ) (w : Option (List ℕ)) → is_unreadable_state (state_by path name w) ≡ false
readable_by path name None = refl
readable_by path name (Some winner) =
    elim (same_bytes winner path) as (λ b. is_unreadable_state (cond b (Class name) (Shadowed name winner)) ≡ false) [ true ↦ refl | false ↦ refl ]

unreadable_state : (f : Files) (path : List ℕ) (outcome : Result (List ℕ) ParseError) → not (is_ok outcome) ≡ is_unreadable_state (state_of f path outcome)
unreadable_state f path (Ok name) = sym (readable_by path name (winner f name))
unreadable_state f path (Err refusal) = refl

unreadable_among : (f : Files) (es : List (List ℕ × List ℕ)) → list_any (λ e. not (is_ok (class_named e.1))) es ≡ list_any is_unreadable (map (row_of f) es)
unreadable_among f [] = refl
unreadable_among f (e ∷ es) = λ i. unreadable_state f e.0 (class_named e.1) i || unreadable_among f es i

-- a row is unreadable where a file's bytes name no class
pub unreadable_rows : (f : Files) → list_any (λ e. not (is_ok (class_named e.1))) (fin.entries f) ≡ list_any is_unreadable (rows f)
unreadable_rows f = unreadable_among f (fin.entries f)
