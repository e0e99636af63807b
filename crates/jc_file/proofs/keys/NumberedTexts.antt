-- Numbers for texts, as one more is numbered.
use Rattle.std.proofs.Common.{◌≡◌, ◌∙◌, ◌⊎◌, inl, inr, ℕ, zero, suc, Bool, true, false, cond, List, [], ◌∷◌, Option, None, Some, slice_get, slice_set, unwrap_or, refl, ap, sym}
use Rattle.jc_base.specs.Bytes.{same_bytes}
use Rattle.jc_base.proofs.maps.FiniteMaps.{same_bytes_decides}
use Rattle.jc_view.specs.declared.constant_pool.ConstantIndex.{ConstantIndex}
use Rattle.jc_file.specs.declared.text_numbers.TextNumbers.{TextNumbers}
use Rattle.jc_view.specs.ClassFile.{ClassFile}
use Rattle.jc_view.specs.Lookups.{utf8_at}
use Rattle.jc_file.specs.inside.TextNumbers.{number_of, IsNumberAt, AreNumbers, KeepsNumbers}

-- what stands in a list once an item is set
pub set_cases : {X : Type 0} (xs : List X) (i : ℕ) (v : X) (j : ℕ) (w : X) → slice_get (slice_set xs i v) j ≡ Some w → (slice_get xs j ≡ Some w) ⊎ ((j ≡ i) × (w ≡ v))
set_cases [] i v j w e = inl e
set_cases (x ∷ xs) zero v zero w e = inr (refl, sym (ap (λ o. unwrap_or o v) e))
set_cases (x ∷ xs) zero v (suc j) w e = inl e
set_cases (x ∷ xs) (suc i) v zero w e = inl e
set_cases (x ∷ xs) (suc i) v (suc j) w e = by (set_cases xs i v j w e)
  where
    by : (slice_get xs j ≡ Some w) ⊎ ((j ≡ i) × (w ≡ v)) → (slice_get xs j ≡ Some w) ⊎ ((suc j ≡ suc i) × (w ≡ v))
    by (inl h) = inl h
    by (inr h) = inr (ap suc h.0, h.1)

-- the number that a text has or gets is an index of it
number_stands : (c : ClassFile) (text : List ℕ) (index : ConstantIndex) → utf8_at c index ≡ Some text → (o : Option ConstantIndex) → ((n : ConstantIndex) → o ≡ Some n → utf8_at c n ≡ Some text) → utf8_at c (unwrap_or o index) ≡ Some text
number_stands c text index is_at None known = is_at
number_stands c text index is_at (Some n) known = known n refl

-- a text that has a number gets no other
keeps_number : (text q : List ℕ) (before : List ℕ → Option ConstantIndex) (index n : ConstantIndex) → before q ≡ Some n → cond (same_bytes text q) (Some (unwrap_or (before text) index)) (before q) ≡ Some n
keeps_number text q before index n e = by (same_bytes text q) refl
  where
    by : (b : Bool) → same_bytes text q ≡ b → cond b (Some (unwrap_or (before text) index)) (before q) ≡ Some n
    by true same = ap (λ t. Some (unwrap_or (before t) index)) ((same_bytes_decides text q).0 same) ∙ ap (λ o. Some (unwrap_or o index)) e
    by false other = e

module _ (c : ClassFile) (old new : TextNumbers) (text : List ℕ) (index number : ConstantIndex) (is_at : utf8_at c index ≡ Some text) (is_number : number ≡ unwrap_or (number_of old text) index)
    (gets : (q : List ℕ) → number_of new q ≡ cond (same_bytes text q) (Some (unwrap_or (number_of old text) index)) (number_of old q)) where
  -- what has a number keeps it
  pub numbers_kept : KeepsNumbers old new
  numbers_kept q n e = gets q ∙ keeps_number text q (number_of old) index n e

  has_number : number_of new text ≡ Some number
  has_number = gets text ∙ ap (λ b. cond b (Some (unwrap_or (number_of old text) index)) (number_of old text)) ((same_bytes_decides text text).1 refl) ∙ ap Some (sym is_number)

  -- the numbers are numbers still
  pub numbers_more : AreNumbers c old → new.by_index.items ≡ slice_set old.by_index.items index.0 (Some number) → AreNumbers c new
  numbers_more sound kept = record { by_text = λ q n e. in_texts q n (same_bytes text q) refl (sym (gets q) ∙ e); by_index = λ i n e. at i n (set_cases old.by_index.items index.0 (Some number) i (Some n) (ap (λ xs. slice_get xs i) (sym kept) ∙ e)) }
    where
      in_texts : (q : List ℕ) (n : ConstantIndex) (b : Bool) → same_bytes text q ≡ b → cond (same_bytes text q) (Some (unwrap_or (number_of old text) index)) (number_of old q) ≡ Some n → utf8_at c n ≡ Some q
      in_texts q n true same e =
          let is : unwrap_or (number_of old text) index ≡ n = ap (λ o. unwrap_or o index) (ap (λ b. cond b (Some (unwrap_or (number_of old text) index)) (number_of old q)) (sym same) ∙ e) in
          ap (utf8_at c) (sym is) ∙ number_stands c text index is_at (number_of old text) (sound.by_text text) ∙ ap Some ((same_bytes_decides text q).0 same)
      in_texts q n false other e = sound.by_text q n (ap (λ b. cond b (Some (unwrap_or (number_of old text) index)) (number_of old q)) (sym other) ∙ e)

      at : (i : ℕ) (n : ConstantIndex) → (slice_get old.by_index.items i ≡ Some (Some n)) ⊎ ((i ≡ index.0) × (Some n ≡ Some number)) → IsNumberAt c new (record { 0 = i }) (Some n)
      at i n (inl h) = let was = sound.by_index i n h in (was.0, was.1, numbers_kept was.0 n was.2)
      at i n (inr h) = (text, ap (λ k. utf8_at c (record { 0 = k })) h.0 ∙ is_at, has_number ∙ sym h.1)
