-- Whether an answer is an error that is listed, by the answers that are left.
use Rattle.std.proofs.Common.{◌≡◌, ◌∙◌, ◌∷◌, ◌||◌, ◌+◌, [], ℕ, Bool, true, false, List, ap, sym}
use Rattle.jc_classes.specs.Facts.{Facts}
use Rattle.jc_classes.specs.Resolution.{Answer}
use Rattle.jc_report.specs.ErrorsText.{has_listed_error, is_listed, user_at}

pub listed_found : (used_only : Bool) (f : Facts) (n : ℕ) (whole : Bool) (left rest : List Answer) (a : Answer) → whole ≡ has_listed_error used_only f n left → left ≡ a ∷ rest → is_listed used_only (user_at f n) a ≡ true → true ≡ whole
listed_found used_only f n whole left rest a so_far is told = sym (so_far ∙ ap (has_listed_error used_only f n) is ∙ ap (λ b. b || has_listed_error used_only f (n + 1) rest) told)

pub listed_passed : (used_only : Bool) (f : Facts) (n : ℕ) (whole : Bool) (left rest : List Answer) (a : Answer) → whole ≡ has_listed_error used_only f n left → left ≡ a ∷ rest → is_listed used_only (user_at f n) a ≡ false
    → whole ≡ has_listed_error used_only f (n + 1) rest
listed_passed used_only f n whole left rest a so_far is untold = so_far ∙ ap (has_listed_error used_only f n) is ∙ ap (λ b. b || has_listed_error used_only f (n + 1) rest) untold

pub none_listed : (used_only : Bool) (f : Facts) (n : ℕ) (whole : Bool) (left : List Answer) → whole ≡ has_listed_error used_only f n left → left ≡ [] → false ≡ whole
none_listed used_only f n whole left so_far none = sym (so_far ∙ ap (has_listed_error used_only f n) none)
