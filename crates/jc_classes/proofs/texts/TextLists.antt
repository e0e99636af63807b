-- A text behind others, and the text of a number.
use Rattle.std.proofs.Common.{◌≡◌, ℕ, zero, suc, ◌+◌, ◌-◌, ◌<◌, ◌≤◌, List, [], ◌∷◌, ◌++◌, length, take, drop, slice_index_or, refl, sym, ap, subst, ◌∙◌, arith}
use Rattle.std.proofs.lemmas.List.{drop-append-le, take-append-drop, take-append-le, length-drop, length-take-le}
use Rattle.std.proofs.Math.Seq.{drop-append_seam, take-length}
use Rattle.jc_classes.specs.inside.TextList.{texts_from, AreEnds, start_at}

-- the texts begin within the buffer
pub ends_within : (size from : ℕ) (ends : List ℕ) → AreEnds size from ends → from ≤ size
ends_within size from [] h = omega (arith, h)
ends_within size from (end ∷ ends) h = omega (arith, h.0, ends_within size end ends h.1)

pub ends_push : (size from more : ℕ) (ends : List ℕ) → AreEnds size from ends → size ≤ more → AreEnds more from (ends ++ more ∷ [])
ends_push size from more [] h l = (omega (arith, h, l), refl)
ends_push size from more (end ∷ ends) h l = (h.0, ends_push size end more ends h.1 l)

-- what stands before the end of a buffer stays where more is put behind it
part_kept : (bytes t : List ℕ) (from end : ℕ) → from ≤ end → end ≤ length bytes → take (end - from) (drop from (bytes ++ t)) ≡ take (end - from) (drop from bytes)
part_kept bytes t from end f e =
    ap (take (end - from)) (drop-append-le from bytes t (omega (arith, f, e)))
    ∙ take-append-le (end - from) (drop from bytes) t (subst (λ n. end - from ≤ n) (sym (length-drop from bytes)) (omega (arith, f, e)))

last_part : (bytes t : List ℕ) → take (length bytes + length t - length bytes) (drop (length bytes) (bytes ++ t)) ≡ t
last_part bytes t =
    let e : length bytes + length t - length bytes ≡ length t = omega arith in
    ap (λ n. take n (drop (length bytes) (bytes ++ t))) e ∙ ap (take (length t)) (drop-append_seam bytes t) ∙ take-length t

pub texts_push : (bytes t : List ℕ) (from : ℕ) (ends : List ℕ) → AreEnds (length bytes) from ends → texts_from (bytes ++ t) from (ends ++ (length bytes + length t) ∷ []) ≡ texts_from bytes from ends ++ t ∷ []
unfolding texts_from
texts_push bytes t from [] h = subst (λ f. take (length bytes + length t - f) (drop f (bytes ++ t)) ∷ [] ≡ t ∷ []) (sym h) (ap (λ x. x ∷ []) (last_part bytes t))
texts_push bytes t from (end ∷ ends) h =
    let e = part_kept bytes t from end h.0 (ends_within (length bytes) end ends h.1) in
    let r = texts_push bytes t end ends h.1 in
    ap (λ x. x ∷ texts_from (bytes ++ t) end (ends ++ (length bytes + length t) ∷ [])) e ∙ ap (λ xs. take (end - from) (drop from bytes) ∷ xs) r

-- ---- the text of a number

-- it lies within the buffer
pub record IsPart (bytes : List ℕ) (from : ℕ) (ends : List ℕ) (number : ℕ) : Type 0 where
  pub rises : start_at from ends number ≤ slice_index_or ends number 0
  pub within : slice_index_or ends number 0 ≤ length bytes
  pub text : take (slice_index_or ends number 0 - start_at from ends number) (drop (start_at from ends number) bytes) ≡ slice_index_or (texts_from bytes from ends) number []

later_start : (from end : ℕ) (ends : List ℕ) (number : ℕ) → start_at end ends number ≡ start_at from (end ∷ ends) (suc number)
later_start from end ends zero = refl
later_start from end ends (suc number) = refl

pub part_is : (bytes : List ℕ) (from : ℕ) (ends : List ℕ) (number : ℕ) → AreEnds (length bytes) from ends → number < length ends → IsPart bytes from ends number
unfolding texts_from
part_is bytes from [] number h l = absurd (omega (arith, l))
part_is bytes from (end ∷ ends) zero h l = record { rises = h.0; within = ends_within (length bytes) end ends h.1; text = refl }
part_is bytes from (end ∷ ends) (suc number) h l =
    let p = part_is bytes end ends number h.1 (omega (arith, l)) in
    let e = later_start from end ends number in
    record {
      rises = subst (λ s. s ≤ slice_index_or ends number 0) e p.rises;
      within = p.within;
      text = subst (λ s. take (slice_index_or ends number 0 - s) (drop s bytes) ≡ slice_index_or (texts_from bytes end ends) number []) e p.text;
    }

-- past the last there is none
pub texts_end : (bytes : List ℕ) (from : ℕ) (ends : List ℕ) (number : ℕ) → length ends ≤ number → slice_index_or (texts_from bytes from ends) number [] ≡ []
unfolding texts_from
texts_end bytes from [] number h = refl
texts_end bytes from (end ∷ ends) zero h = absurd (omega (arith, h))
texts_end bytes from (end ∷ ends) (suc number) h = texts_end bytes end ends number (omega (arith, h))

pub no_texts : (bytes : List ℕ) → texts_from bytes 0 [] ≡ []
unfolding texts_from
no_texts bytes = refl

-- a text for each end
pub length_texts : (bytes : List ℕ) (from : ℕ) (ends : List ℕ) → length ends ≡ length (texts_from bytes from ends)
unfolding texts_from
length_texts bytes from [] = refl
length_texts bytes from (end ∷ ends) = ap suc (length_texts bytes end ends)

-- ---- the texts before a number

pub ends_cut : (size from : ℕ) (ends : List ℕ) (n : ℕ) → AreEnds size from ends → n < length ends → AreEnds (start_at from ends n) from (take n ends)
ends_cut size from [] n h l = absurd (omega (arith, l))
ends_cut size from (end ∷ ends) zero h l = refl
ends_cut size from (end ∷ ends) (suc n) h l =
    (h.0, subst (λ s. AreEnds s end (take n ends)) (later_start from end ends n) (ends_cut size end ends n h.1 (omega (arith, l))))

-- a text that ends before a place stays where the buffer is cut at the place
part_before : (bytes : List ℕ) (from end size : ℕ) → from ≤ end → end ≤ size → size ≤ length bytes
    → take (end - from) (drop from (take size bytes)) ≡ take (end - from) (drop from bytes)
part_before bytes from end size f e l =
    sym (part_kept (take size bytes) (drop size bytes) from end f (subst (λ n. end ≤ n) (sym (length-take-le size bytes l)) e))
    ∙ ap (λ b. take (end - from) (drop from b)) (take-append-drop size bytes)

pub starts_within : (bytes : List ℕ) (from : ℕ) (ends : List ℕ) (n : ℕ) → AreEnds (length bytes) from ends → n < length ends → start_at from ends n ≤ length bytes
starts_within bytes from ends n h l =
    let p = part_is bytes from ends n h l in
    omega (arith, p.rises, p.within)

pub texts_cut : (bytes : List ℕ) (from : ℕ) (ends : List ℕ) (n : ℕ) → AreEnds (length bytes) from ends → n < length ends
    → texts_from (take (start_at from ends n) bytes) from (take n ends) ≡ take n (texts_from bytes from ends)
unfolding texts_from
texts_cut bytes from [] n h l = absurd (omega (arith, l))
texts_cut bytes from (end ∷ ends) zero h l = refl
texts_cut bytes from (end ∷ ends) (suc n) h l =
    let s = start_at end ends n in
    let less : n < length ends = omega (arith, l) in
    let near : end ≤ s = ends_within s end (take n ends) (ends_cut (length bytes) end ends n h.1 less) in
    subst (λ size. take (end - from) (drop from (take size bytes)) ∷ texts_from (take size bytes) end (take n ends) ≡ take (end - from) (drop from bytes) ∷ take n (texts_from bytes end ends))
    (later_start from end ends n)
    (ap (λ x. x ∷ texts_from (take s bytes) end (take n ends)) (part_before bytes from end s h.0 near (starts_within bytes end ends n h.1 less))
    ∙ ap (λ xs. take (end - from) (drop from bytes) ∷ xs) (texts_cut bytes end ends n h.1 less))
