-- No layout begins another, and at most one refusal is the first.
use Rattle.std.proofs.Common.{◌≡◌, ◌≢◌, ℕ, ◌+◌, ◌<◌, false, cond, eqb, List, [], ◌∷◌, ◌++◌, length, drop, None, Result, Ok, Err, refl, sym, ap, subst, ◌∙◌, arith, inl, inr}
use Rattle.std.proofs.lemmas.Bool.{cases_eq, cases_lt}
use Rattle.std.proofs.lemmas.List.{take_all, take-append-drop, append-nil, nil_from_length, length-drop, length-take}
use Rattle.jc_base.specs.Cursor.{Reading}
use Rattle.jc_view.specs.declared.parse_error.ParseError.{ParseError}
use Rattle.jc_view.specs.declared.parse_error.ParseError.TheVariants as errors
use Rattle.jc_view.specs.ClassFile.{ClassFile, layout, FitsClassFile}
use Rattle.jc_view.specs.Places.{places_of}
use Rattle.jc_view.specs.Reading.{entries_from, PartsRead, parts_at, class_value}
use Rattle.jc_view.specs.Refusal.{IsLayoutOf, pool_size, Applies, refusal_number, IsRefusal, IsReadable, IsNamed}
use Rattle.jc_view.proofs.reading.FirstConstant.{ok_is}
use Rattle.jc_view.proofs.reading.Pools.{pool_bytes}
use Rattle.jc_view.proofs.reading.PoolStops.{tag_stops, wide_stops}
use Rattle.jc_view.proofs.reading.Heads.{start}
use Rattle.jc_view.proofs.reading.ClassFiles.{whole_again}
use Rattle.jc_view.proofs.refusals.Fronts.{old_pool, follow, read_again}
use Rattle.jc_view.proofs.refusals.FirstRefusal.{earlier}

-- no class file's bytes are a proper front of another's, and no two class files have the same bytes
pub one_layout : (c d : ClassFile) (rest : List ℕ) → FitsClassFile c → FitsClassFile d → layout c ++ rest ≡ layout d → (rest ≡ []) × (c ≡ d)
one_layout c d rest fits_c fits_d same =
    let of_d = read_again d fits_d in
    let none : length rest ≡ 0 =
    elim (cases_eq (length rest) 0) [
      | inl none ↦ none
      | inr some ↦ absurd (let impossible = sym (follow c rest fits_c some) ∙ ap (λ (xs : List ℕ). parts_at (start xs)) (same ∙ sym (append-nil (layout d))) ∙ of_d.1 in cc)
    ] in
    let empty : rest ≡ [] = nil_from_length rest none in
    let texts : layout c ++ [] ≡ layout d ++ [] = ap (λ (xs : List ℕ). layout c ++ xs) (sym empty) ∙ same ∙ sym (append-nil (layout d)) in
    let of_c = read_again c fits_c in
    let found = ok_is _ _ (sym of_c.1 ∙ ap (λ (xs : List ℕ). parts_at (start xs)) texts ∙ of_d.1) in
    let classes : class_value (layout c ++ []) (None ∷ places_of 10 c.constants) (10 + length (pool_bytes c.constants)) ≡ class_value (layout d ++ []) (None ∷ places_of 10 d.constants) (10 + length (pool_bytes d.constants)) =
    ap (λ (xs : List ℕ). class_value xs (None ∷ places_of 10 c.constants) (10 + length (pool_bytes c.constants))) texts ∙ ap (λ (p : PartsRead × Reading). class_value (layout d ++ []) p.0.places p.0.tail) found in
    (empty, sym (whole_again c [] fits_c).same ∙ classes ∙ (whole_again d [] fits_d).same)

-- the place in a refusal, and the refusal of a number and a place
place_of : ParseError → ℕ
place_of (errors.Tag at) = at
place_of (errors.Wide at) = at
place_of (errors.Trailing at) = at
place_of e = 0

by_number : ℕ → ℕ → ParseError
by_number n at =
    cond (eqb n 1) errors.Magic (cond (eqb n 2) errors.Version (cond (eqb n 3) errors.Count (cond (eqb n 4) (errors.Tag at) (cond (eqb n 5) (errors.Wide at)
    (cond (eqb n 6) (errors.Trailing at) (cond (eqb n 7) errors.Short (cond (eqb n 8) errors.NoName errors.NoMemory)))))))

by_its_number : (e : ParseError) → by_number (refusal_number e) (place_of e) ≡ e
unfolding by_number place_of
by_its_number errors.Magic = refl
by_its_number errors.Version = refl
by_its_number errors.Count = refl
by_its_number (errors.Tag at) = refl
by_its_number (errors.Wide at) = refl
by_its_number (errors.Trailing at) = refl
by_its_number errors.Short = refl
by_its_number errors.NoName = refl
by_its_number errors.NoMemory = refl

place_told : {A : Type 0} → Result A ParseError → ℕ
place_told (Ok x) = 0
place_told (Err e) = place_of e

-- the place that the bytes tell for a refusal of this number
told : List ℕ → ℕ → ℕ
told b n =
    cond (eqb n 4) (place_told (entries_from (pool_size b) false (old_pool b)))
    (cond (eqb n 5) (place_told (entries_from (pool_size b) false (old_pool b))) (cond (eqb n 6) (place_told (parts_at (start b))) 0))

trailing_place : (b : List ℕ) (at : ℕ) → Applies (errors.Trailing at) b → parts_at (start b) ≡ Err (errors.Trailing at)
trailing_place b at h =
    let c = h.1 in
    let here = h.2 in
    let lt = h.0 in
    let split : layout c ++ drop at b ≡ b = ap (λ (xs : List ℕ). xs ++ drop at b) here.bytes ∙ take-append-drop at b in
    let some : length (drop at b) ≢ 0 = λ none. absurd (omega (arith, length-drop at b)) in
    let len : length (layout c) ≡ at = omega (arith, ap length here.bytes, length-take at b) in
    sym (ap (λ (xs : List ℕ). parts_at (start xs)) split) ∙ follow c (drop at b) here.fits some ∙ ap (λ (n : ℕ). Err (errors.Trailing n)) len

place_is_told : (b : List ℕ) (e : ParseError) → Applies e b → place_of e ≡ told b (refusal_number e)
unfolding told place_told place_of
place_is_told b errors.Magic h = refl
place_is_told b errors.Version h = refl
place_is_told b errors.Count h = refl
place_is_told b (errors.Tag at) h = sym (ap place_told (tag_stops (pool_size b) (old_pool b) at h.1 h.2))
place_is_told b (errors.Wide at) h = sym (ap place_told (wide_stops (pool_size b) (old_pool b) at h.1 h.2 h.3))
place_is_told b (errors.Trailing at) h = sym (ap place_told (trailing_place b at h))
place_is_told b errors.Short h = refl
place_is_told b errors.NoName h = refl
place_is_told b errors.NoMemory h = refl

-- at most one refusal is the first
pub one_refusal : (b : List ℕ) (e f : ParseError) → IsRefusal b e → IsRefusal b f → e ≡ f
one_refusal b e f h k =
    let not_less : refusal_number e < refusal_number f → ⊥ = λ lt. k.first e lt h.applies in
    let not_more : refusal_number f < refusal_number e → ⊥ = λ lt. h.first f lt k.applies in
    let same : refusal_number e ≡ refusal_number f =
    elim (cases_lt (refusal_number e) (refusal_number f)) [
      | inl less ↦ absurd (not_less less)
      | inr more ↦ elim (cases_lt (refusal_number f) (refusal_number e)) [ inl lt ↦ absurd (not_more lt) | inr le ↦ omega arith ]
    ] in
    sym (by_its_number e) ∙ ap (by_number (refusal_number e)) (place_is_told b e h.applies) ∙ ap (λ (n : ℕ). by_number n (told b n)) same
    ∙ sym (ap (by_number (refusal_number f)) (place_is_told b f k.applies)) ∙ by_its_number f

pub is_read : (b : List ℕ) (c : ClassFile) → IsLayoutOf c b → (found : PartsRead × Reading) × (parts_at (start b) ≡ Ok found)
is_read b c here =
    let again = read_again c here.fits in
    let text : layout c ++ [] ≡ b = append-nil (layout c) ∙ here.bytes in
    (_, sym (ap (λ (xs : List ℕ). parts_at (start xs)) text) ∙ again.1)

-- a class file has one record
pub one_class : (b : List ℕ) (c d : ClassFile) → IsLayoutOf c b → IsLayoutOf d b → c ≡ d
one_class b c d here there = (one_layout c d [] here.fits there.fits (append-nil (layout c) ∙ here.bytes ∙ sym there.bytes)).1

not_read : (b : List ℕ) (c : ClassFile) (e : ParseError) → IsLayoutOf c b → refusal_number e < 7 → ¬ Applies e b
not_read b c e here lt a = let r = earlier b e lt a in let impossible = sym (is_read b c here).1 ∙ r.1 in absurd cc

-- nothing applies to a readable file
pub none_applies : (b : List ℕ) (e : ParseError) → IsReadable b → ¬ Applies e b
none_applies b errors.Magic h a = not_read b h.0 errors.Magic h.1 (omega arith) a
none_applies b errors.Version h a = not_read b h.0 errors.Version h.1 (omega arith) a
none_applies b errors.Count h a = not_read b h.0 errors.Count h.1 (omega arith) a
none_applies b (errors.Tag at) h a = not_read b h.0 (errors.Tag at) h.1 (omega arith) a
none_applies b (errors.Wide at) h a = not_read b h.0 (errors.Wide at) h.1 (omega arith) a
none_applies b (errors.Trailing at) h a = not_read b h.0 (errors.Trailing at) h.1 (omega arith) a
none_applies b errors.Short h a = a (length b) h.0 (record { fits = h.1.fits; bytes = h.1.bytes ∙ sym (take_all (length b) b (omega arith)) })
none_applies b errors.NoName h a = a.2 h.2.0 (subst (λ (c : ClassFile). IsNamed c h.2.0) (one_class b h.0 a.0 h.1 a.1) h.2.1)
none_applies b errors.NoMemory h a = a
