-- Going over a constant pool, as a loop does.
use Rattle.std.proofs.Common.{◌≡◌, ℕ, suc, ◌+◌, ◌-◌, ◌<◌, ◌≤◌, Bool, List, [], ◌∷◌, ◌++◌, eqb, Option, Result, Ok, Err, refl, sym, ap, ◌∙◌, append_assoc, arith, subst, inl, inr, eq-eqb, ◌⊎◌}
use Rattle.std.proofs.lemmas.Bool.{cases_eq, ne_eqb}
use Rattle.std.proofs.lemmas.List.{append-nil}
use Rattle.jc_base.specs.Cursor.{Reading}
use Rattle.jc_view.specs.declared.parse_error.ParseError.{ParseError}
use Rattle.jc_view.specs.declared.parse_error.ParseError.TheVariants as errors
use Rattle.jc_view.specs.Reading.{◌>>=◌, Entry, entry_at, entries_from, with_front}
use Rattle.jc_view.specs.inside.Outcomes.{Fails}

regroup : (front : List (Option ℕ)) (place : Option ℕ) (read : Result (List (Option ℕ) × Reading) ParseError) → with_front front (read >>= λ x. Ok (place ∷ x.0, x.1)) ≡ with_front (front ++ place ∷ []) read
regroup front place (Ok x) = ap (λ (ns : List (Option ℕ)). Ok (ns, x.1)) (simp append_assoc)
regroup front place (Err e) = refl

-- the test for the last index, as the code makes it and as the definition does
same_last : (count i : ℕ) → i < count → eqb (count - i) 1 ≡ eqb (count - (i + 1)) 0
same_last count i lt =
    elim (cases_eq (count - i) 1) [
      | inl last ↦ eq-eqb _ _ last ∙ sym (eq-eqb (count - (i + 1)) 0 (omega arith))
      | inr other ↦ ne_eqb _ _ other ∙ sym (ne_eqb (count - (i + 1)) 0 (λ e. other (omega arith)))
    ]

pub pool_more : (front : List (Option ℕ)) (count i : ℕ) (is_second : Bool) (old new : Reading) (entry : Entry) (total : Result (List (Option ℕ) × Reading) ParseError) → i < count
    → entry_at is_second (eqb (count - i) 1) old ≡ Ok (entry, new)
    → with_front front (entries_from (count - i) is_second old) ≡ total → with_front (front ++ entry.offset ∷ []) (entries_from (count - (i + 1)) entry.is_wide new) ≡ total
unfolding entries_from
pool_more front count i is_second old new entry total lt here so_far =
    let k : count - i ≡ suc (count - (i + 1)) = omega arith in
    let same : entry_at is_second (eqb (count - (i + 1)) 0) old ≡ Ok (entry, new) = rw (← same_last count i lt) here in
    let one : with_front front (entries_from (count - i) is_second old) ≡ with_front (front ++ entry.offset ∷ []) (entries_from (count - (i + 1)) entry.is_wide new) = rw (k, same) (regroup front entry.offset (entries_from (count - (i + 1)) entry.is_wide new)) in
    sym one ∙ so_far

pub fails_is : {A : Type 0} (e : ParseError) (read : Result A ParseError) → Fails e read → (e ≡ errors.NoMemory) ⊎ (read ≡ Err e)
fails_is errors.NoMemory read h = inl refl
fails_is errors.Magic read h = inr h
fails_is errors.Version read h = inr h
fails_is errors.Count read h = inr h
fails_is (errors.Tag at) read h = inr h
fails_is (errors.Wide at) read h = inr h
fails_is (errors.Trailing at) read h = inr h
fails_is errors.Short read h = inr h
fails_is errors.NoName read h = inr h

fails_by : {A : Type 0} (e : ParseError) (read : Result A ParseError) → read ≡ Err e → Fails e read
fails_by errors.NoMemory read h = tt
fails_by errors.Magic read h = h
fails_by errors.Version read h = h
fails_by errors.Count read h = h
fails_by (errors.Tag at) read h = h
fails_by (errors.Wide at) read h = h
fails_by (errors.Trailing at) read h = h
fails_by errors.Short read h = h
fails_by errors.NoName read h = h

fails_memory : {A : Type 0} (e : ParseError) (read : Result A ParseError) → e ≡ errors.NoMemory → Fails e read
fails_memory e read h = subst (λ x. Fails x read) (sym h) tt

pub pool_cut : (e : ParseError) (front : List (Option ℕ)) (count i : ℕ) (is_second : Bool) (old : Reading) (total : Result (List (Option ℕ) × Reading) ParseError) → i < count
    → Fails e (entry_at is_second (eqb (count - i) 1) old)
    → with_front front (entries_from (count - i) is_second old) ≡ total → Fails e total
unfolding entries_from
pool_cut e front count i is_second old total lt here so_far =
    let k : count - i ≡ suc (count - (i + 1)) = omega arith in
    elim (fails_is e (entry_at is_second (eqb (count - i) 1) old) here) [
      | inl memory ↦ fails_memory e total memory
      | inr stops ↦
          let same : entry_at is_second (eqb (count - (i + 1)) 0) old ≡ Err e = rw (← same_last count i lt) stops in
          let one : with_front front (entries_from (count - i) is_second old) ≡ Err e = rw (k, same) refl in
          fails_by e total (sym so_far ∙ one)
    ]

pub pool_done : (front : List (Option ℕ)) (count i : ℕ) (is_second : Bool) (reading : Reading) (total : Result (List (Option ℕ) × Reading) ParseError) → count ≤ i
    → with_front front (entries_from (count - i) is_second reading) ≡ total → total ≡ Ok (front, reading)
unfolding entries_from
pool_done front count i is_second reading total le so_far =
    let k : count - i ≡ 0 = omega arith in
    let one : with_front front (entries_from (count - i) is_second reading) ≡ Ok (front, reading) = rw k (ap (λ (ns : List (Option ℕ)). Ok (ns, reading)) (append-nil front)) in
    sym so_far ∙ one
