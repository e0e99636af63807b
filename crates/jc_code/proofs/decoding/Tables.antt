-- Going through the table of a switch, whose entries have one size.
use Rattle.std.proofs.Common.{◌≡◌, ℕ, zero, suc, ◌+◌, ◌-◌, ◌*◌, ◌≤◌, List, [], ◌∷◌, length, take, drop, Option, Some, None, refl, sym, ap, ◌∙◌, arith}
use Rattle.std.proofs.lemmas.List.{length-take, length-drop, drop_all, drop-take}
use Rattle.jc_base.proofs.Common.{left_of}
use Rattle.jc_view.specs.Reading.{after, after_each, each_value}
use Rattle.jc_view.proofs.reading.BigEndian.{after_front}
use Rattle.jc_view.proofs.reading.Tables.{each_size}

-- the first entry, and those behind it
pub record IsNext {X : Type 0} (one : List ℕ → Option (List ℕ)) (value : List ℕ → X) (left n : ℕ) (xs rest end : List ℕ) : Type 0 where
  pub entries : each_value one value left xs ≡ value xs ∷ each_value one value n rest
  pub whole : after_each one n rest ≡ Some end

module _ {X : Type 0} (one : List ℕ → Option (List ℕ)) (value : List ℕ → X) where
  pub length-each : (n : ℕ) (xs : List ℕ) → length (each_value one value n xs) ≡ n
  unfolding each_value
  length-each zero xs = refl
  length-each (suc n) xs = ap suc (length-each n (left_of (one xs)))

  pub never_cut : (left : ℕ) (xs end : List ℕ) → 1 ≤ left → after_each one left xs ≡ Some end → one xs ≡ None → ⊥
  unfolding after_each
  never_cut zero xs end le whole e = absurd (omega arith)
  never_cut (suc n) xs end le whole e = let none : after_each one (suc n) xs ≡ None = rw e refl in cc

  pub next_entry : (left n : ℕ) (xs rest end : List ℕ) → 1 ≤ left → n ≡ left - 1 → after_each one left xs ≡ Some end → one xs ≡ Some rest → IsNext one value left n xs rest end
  unfolding after_each each_value
  next_entry zero n xs rest end le is_n whole e = absurd (omega arith)
  next_entry (suc k) n xs rest end le is_n whole e =
      let same : k ≡ n = omega arith in
      let here : left_of (one xs) ≡ rest = ap left_of e in
      let others : after_each one (suc k) xs ≡ after_each one n rest = rw (e, same) refl in
      record {
        entries = ap (λ (ys : List ℕ). value xs ∷ each_value one value k ys) here ∙ ap (λ (m : ℕ). value xs ∷ each_value one value m rest) same;
        whole = sym others ∙ whole;
      }

-- ---- the part of the bytes that a table is

-- so many entries are all of the bytes that they take
pub part_is_whole : (size n : ℕ) (xs : List ℕ) → size * n ≤ length xs → after_each (after size) n (take (size * n) xs) ≡ Some []
part_is_whole size n xs le =
    let part = take (size * n) xs in
    each_size size n part
    ∙ after_front (size * n) part (omega (arith, length-take (size * n) xs))
    ∙ ap (λ (ys : List ℕ). Some ys) (drop_all (size * n) part (omega (arith, length-take (size * n) xs)))

-- what a value is read from
abbrev pub IsInFront : {X : Type 0} → ℕ → (List ℕ → X) → Type 0
IsInFront size value = (m : ℕ) (xs : List ℕ) → size ≤ m → value (take m xs) ≡ value xs

module _ {X : Type 0} (size : ℕ) (value : List ℕ → X) (front : IsInFront size value) where
  pub part_values : (n : ℕ) (xs : List ℕ) → size * n ≤ length xs → each_value (after size) value n (take (size * n) xs) ≡ each_value (after size) value n xs
  unfolding each_value
  part_values zero xs le = refl
  part_values (suc n) xs le =
      let whole = size * suc n in
      let sum : whole ≡ size + size * n = omega arith in
      let here : left_of (after size xs) ≡ drop size xs = ap left_of (after_front size xs (omega arith)) in
      let part : left_of (after size (take whole xs)) ≡ take (size * n) (drop size xs) =
      ap left_of (after_front size (take whole xs) (omega (arith, length-take whole xs))) ∙ ap (λ (m : ℕ). drop size (take m xs)) sum ∙ drop-take size (size * n) xs in
      let first : value (take whole xs) ≡ value xs = front whole xs (omega arith) in
      ap (λ (ys : List ℕ). value (take whole xs) ∷ each_value (after size) value n ys) part
      ∙ ap (λ (ys : List X). value (take whole xs) ∷ ys) (part_values n (drop size xs) (omega (arith, length-drop size xs)))
      ∙ ap (λ (ys : List ℕ). value (take whole xs) ∷ each_value (after size) value n ys) (sym here)
      ∙ ap (λ (x : X). x ∷ each_value (after size) value n (left_of (after size xs))) first
