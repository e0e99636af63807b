-- The lines of references that errors answer, one reference on.
use Rattle.std.proofs.Common.{◌≡◌, ◌∙◌, ℕ, zero, suc, ◌+◌, Bool, List, [], ◌∷◌, ◌++◌, drop, Some, None, refl, ap}
use Rattle.std.specs.Prelude.{slice_get}
use Rattle.std.proofs.lemmas.List.{drop_more}
use Rattle.std.proofs.lemmas.Option.{get_or_from_slice_get, slice_get_within}
use Rattle.jc_classes.specs.Facts.{Facts, Reference}
use Rattle.jc_classes.specs.Resolution.{Answer}
use Rattle.jc_report.specs.ErrorsText.{answer_error, answer_errors, user_at}

pub errors_next : (used_only : Bool) (f : Facts) (refs : List Reference) (rest : List Answer) (n : ℕ) (r : Reference) (a : Answer) → slice_get refs n ≡ Some r
    → answer_errors used_only f n (drop n refs) (a ∷ rest) ≡ answer_error used_only f r (user_at f n) a ++ answer_errors used_only f (n + 1) (drop (n + 1) refs) rest
errors_next used_only f refs rest n r a e =
    ap (λ left. answer_errors used_only f n left (a ∷ rest)) (drop_more refs n r (slice_get_within refs n r e) ∙ ap (λ first. first ∷ drop (n + 1) refs) (get_or_from_slice_get refs n r r e))

pub errors_past : (used_only : Bool) (f : Facts) (number : ℕ) (refs : List Reference) (answers : List Answer) (n : ℕ) → slice_get refs n ≡ None → answer_errors used_only f number (drop n refs) answers ≡ []
errors_past used_only f number [] answers zero e = refl
errors_past used_only f number [] answers (suc n) e = refl
errors_past used_only f number (r ∷ refs) answers zero e = absurd cc
errors_past used_only f number (r ∷ refs) answers (suc n) e = errors_past used_only f number refs answers n e

pub no_more : (used_only : Bool) (f : Facts) (number : ℕ) (refs : List Reference) → answer_errors used_only f number refs [] ≡ []
no_more used_only f number [] = refl
no_more used_only f number (r ∷ rs) = refl
