-- Numbers that are marked.
use Rattle.std.proofs.Common.{◌≡◌, ◌∙◌, ℕ, Bool, true, false, not, List, zero, suc, refl, replicate, set, sym, ap, subst, ◌⊎◌, inl, inr, ⊎_elim}
use Rattle.std.proofs.lemmas.Bool.{false≢true}
use Rattle.std.proofs.lemmas.List.{get_or-set_other}
use Rattle.std.specs.List.{Contains, filter}
use Rattle.jc_classes.proofs.using.Marking.{nat_cases}
use Rattle.jc_linkage.specs.inside.RowLists.{AreMarks, is_marked}
use Rattle.jc_linkage.proofs.required_rows.NumberedRows.{kept_there}

none_marked : (count n : ℕ) → is_marked (replicate count false) n ≡ false
none_marked zero n = refl
none_marked (suc count) zero = refl
none_marked (suc count) (suc n) = none_marked count n

pub marks_none : (numbers : List ℕ) (count : ℕ) → AreMarks numbers (replicate count false)
marks_none numbers count n e = absurd (false≢true (sym (none_marked count n) ∙ e))

-- one more is marked
pub marked_more : (marks : List Bool) (number n : ℕ) → is_marked (set marks number true) n ≡ true → (is_marked marks n ≡ true) ⊎ (n ≡ number)
marked_more marks number n e = ⊎_elim inr (λ other. inl (sym (get_or-set_other marks number n true false other) ∙ e)) (nat_cases n number)

pub marks_more : (numbers : List ℕ) (old new : List Bool) (number : ℕ) → AreMarks numbers old → Contains numbers number
    → ((n : ℕ) → is_marked new n ≡ true → (is_marked old n ≡ true) ⊎ (n ≡ number)) → AreMarks numbers new
marks_more numbers old new number marks there more n e = ⊎_elim (marks n) (λ same. subst (Contains numbers) (sym same) there) (more n e)

pub come_or_there : (numbers there : List ℕ) (marks : List Bool) → AreMarks there marks → (n : ℕ) → Contains numbers n → Contains (filter (λ m. not (is_marked marks m)) numbers) n ⊎ Contains there n
come_or_there numbers there marks are n c = by (is_marked marks n) refl
  where
    by : (b : Bool) → is_marked marks n ≡ b → Contains (filter (λ m. not (is_marked marks m)) numbers) n ⊎ Contains there n
    by true e = inr (are n e)
    by false e = inl (kept_there (λ m. not (is_marked marks m)) numbers n (ap not e) c)
