-- What is left behind bytes of one size and then of another.
use Rattle.std.proofs.Common.{◌≡◌, ℕ, ◌+◌, ◌-◌, ◌<◌, ◌≤◌, List, length, drop, Some, None, refl, sym, ap, ◌∙◌, arith, inl, inr}
use Rattle.std.proofs.lemmas.Bool.{cases_lt, lt-ltb}
use Rattle.std.proofs.lemmas.List.{length-drop, drop-drop}
use Rattle.jc_view.specs.Reading.{after}
use Rattle.jc_view.proofs.reading.BigEndian.{after_some, after_front, after_both}

pub after_short : (n : ℕ) (xs : List ℕ) → length xs < n → after n xs ≡ None
after_short n xs lt = rw (lt-ltb _ _ lt) refl

-- fewer than n bytes are left
pub after_none : (n : ℕ) (xs : List ℕ) → after n xs ≡ None → length xs < n
after_none n xs e =
    elim (cases_lt (length xs) n) [
      | inl lt ↦ lt
      | inr le ↦ absurd (let there : after n xs ≡ Some (drop n xs) = after_front n xs le in cc)
    ]

pub both_behind : (m n k : ℕ) (xs ys rest : List ℕ) → m + n ≡ k → after m xs ≡ Some ys → after n ys ≡ Some rest → after k xs ≡ Some rest
both_behind m n k xs ys rest sum e g =
    let f = after_some m xs ys e in
    let h = after_some n ys rest g in
    let le = f.long in
    let there = h.long in
    let size : length ys ≡ length xs - m = ap length (sym f.left) ∙ length-drop m xs in
    after_front k xs (omega arith) ∙ ap (λ (zs : List ℕ). Some zs) (ap (λ (j : ℕ). drop j xs) (sym sum) ∙ sym (drop-drop n m xs) ∙ ap (drop n) f.left ∙ h.left)

pub second_cut : (m n k : ℕ) (xs ys : List ℕ) → m + n ≡ k → after m xs ≡ Some ys → after n ys ≡ None → after k xs ≡ None
second_cut m n k xs ys sum e g =
    let f = after_some m xs ys e in
    let le = f.long in
    let short = after_none n ys g in
    let size : length ys ≡ length xs - m = ap length (sym f.left) ∙ length-drop m xs in
    after_short k xs (omega arith)

pub not_left : (n : ℕ) (xs : List ℕ) → (n ≤ length xs → ⊥) → after n xs ≡ None
not_left n xs h =
    elim (cases_lt (length xs) n) [
      | inl lt ↦ after_short n xs lt
      | inr le ↦ absurd (h le)
    ]

-- bytes of one size and then of another
pub split_behind : (m n k : ℕ) (xs rest : List ℕ) → m + n ≡ k → after k xs ≡ Some rest → (after m xs ≡ Some (drop m xs)) × (after n (drop m xs) ≡ Some rest)
split_behind m n k xs rest sum e = after_both m n xs rest (ap (λ (j : ℕ). after j xs) sum ∙ e)
