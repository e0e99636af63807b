-- A class file that is read is the class file that was spelled, and what was spelled is read again.
use Rattle.std.proofs.Common.{◌≡◌, ◌≢◌, ℕ, ◌+◌, ◌-◌, ◌<◌, ◌≤◌, ◌⊎◌, Bool, true, false, not, ◌&&◌, ◌||◌, eqb, List, length, drop, Some, None, Ok, Err, refl, ap, ◌∙◌, arith, inl, inr, eq-eqb}
use Rattle.std.proofs.lemmas.Bool.{cases_Bool, cases_eq, eqb-true, ne_eqb, cases_lt}
use Rattle.std.proofs.lemmas.List.{length-drop, drop-drop}
use Rattle.jc_base.proofs.Common.{both_true, or_true}
use Rattle.jc_base.specs.Cursor.{Reading}
use Rattle.jc_base.specs.Endian.{big_number}
use Rattle.jc_view.specs.declared.parse_error.ParseError.TheVariants as errors
use Rattle.jc_view.specs.ClassFile.{magic, IsAcceptedVersion}
use Rattle.jc_view.specs.Reading.{after, is_accepted, head_at}
use Rattle.jc_view.proofs.reading.BigEndian.{after_front}
use Rattle.jc_view.proofs.reading.Tables.{after_short}
use Rattle.jc_view.specs.Refusal.{HasHead}

-- ---- tests and facts

pub not_false : (b : Bool) → not b ≡ false → b ≡ true
not_false true e = refl
not_false false e = absurd cc

pub not_true : (b : Bool) → not b ≡ true → b ≡ false
not_true true e = absurd cc
not_true false e = refl

or_cases : (a b : Bool) → a || b ≡ true → (a ≡ true) ⊎ (b ≡ true)
or_cases true b e = inl refl
or_cases false b e = inr e

pub accepted_is : (major minor : ℕ) → is_accepted major minor ≡ true → IsAcceptedVersion major minor
accepted_is major minor e =
    elim (or_cases (eqb major 51) (eqb major 52 && eqb minor 0) e) [
      | inl h ↦ inl (eqb-true major 51 h)
      | inr h ↦ let both = both_true (eqb major 52) (eqb minor 0) h in inr (eqb-true major 52 both.0, eqb-true minor 0 both.1)
    ]

pub is_accepted_of : (major minor : ℕ) → IsAcceptedVersion major minor → is_accepted major minor ≡ true
is_accepted_of major minor h =
    elim h [
      | inl e ↦ rw (eq-eqb major 51 e) refl
      | inr e ↦ rw (eq-eqb major 52 e.0, eq-eqb minor 0 e.1) (or_true (eqb major 51))
    ]

pub not_accepted : (major minor : ℕ) → ¬ IsAcceptedVersion major minor → is_accepted major minor ≡ false
not_accepted major minor h =
    elim (cases_Bool (is_accepted major minor)) [
      | inl hit ↦ absurd (h (accepted_is major minor hit))
      | inr miss ↦ miss
    ]

-- ---- the head

abbrev pub start : List ℕ → Reading
start b = record { place = 0; rest = b }

abbrev pub version_in : List ℕ → Type 0
version_in b = IsAcceptedVersion (big_number 2 (drop 6 b)) (big_number 2 (drop 4 b))

pub behind : (m n : ℕ) (b : List ℕ) → m + n ≤ length b → after n (drop m b) ≡ Some (drop (m + n) b)
behind m n b le = after_front n (drop m b) (omega (arith, length-drop m b)) ∙ ap (λ (xs : List ℕ). Some xs) (drop-drop n m b)

cut : (m n : ℕ) (b : List ℕ) → m ≤ length b → length b < m + n → after n (drop m b) ≡ None
cut m n b le lt = after_short n (drop m b) (omega (arith, length-drop m b))

pub head_magic : (b : List ℕ) → 4 ≤ length b → big_number 4 b ≢ magic → head_at (start b) ≡ Err errors.Magic
unfolding head_at
head_magic b long other = rw (behind 0 4 b long, ne_eqb _ _ other) refl

pub head_version : (b : List ℕ) → 8 ≤ length b → big_number 4 b ≡ magic → ¬ version_in b → head_at (start b) ≡ Err errors.Version
unfolding head_at
head_version b long is_magic other =
    rw (behind 0 4 b (omega arith), eq-eqb _ _ is_magic, behind 4 2 b (omega arith), behind 6 2 b long, not_accepted _ _ other) refl

pub head_count : (b : List ℕ) → 10 ≤ length b → big_number 4 b ≡ magic → version_in b → big_number 2 (drop 8 b) ≡ 0 → head_at (start b) ≡ Err errors.Count
unfolding head_at
head_count b long is_magic version count =
    rw (behind 0 4 b (omega arith), eq-eqb _ _ is_magic, behind 4 2 b (omega arith), behind 6 2 b (omega arith), is_accepted_of _ _ version, behind 8 2 b long, eq-eqb _ _ count) refl

head_good : (b : List ℕ) → 10 ≤ length b → big_number 4 b ≡ magic → version_in b → big_number 2 (drop 8 b) ≢ 0 → head_at (start b) ≡ Ok (big_number 2 (drop 8 b), record { place = 10; rest = drop 10 b })
unfolding head_at
head_good b long is_magic version count =
    let place : (0 + length b) - length (drop 10 b) ≡ 10 = omega (arith, length-drop 10 b) in
    rw (behind 0 4 b (omega arith), eq-eqb _ _ is_magic, behind 4 2 b (omega arith), behind 6 2 b (omega arith), is_accepted_of _ _ version, behind 8 2 b long, ne_eqb _ _ count, place) refl

head_short : (b : List ℕ) → length b < 4 → head_at (start b) ≡ Err errors.Short
unfolding head_at
head_short b lt = rw (cut 0 4 b (omega arith) lt) refl

head_no_minor : (b : List ℕ) → 4 ≤ length b → length b < 6 → big_number 4 b ≡ magic → head_at (start b) ≡ Err errors.Short
unfolding head_at
head_no_minor b long lt is_magic = rw (behind 0 4 b long, eq-eqb _ _ is_magic, cut 4 2 b long lt) refl

head_no_major : (b : List ℕ) → 6 ≤ length b → length b < 8 → big_number 4 b ≡ magic → head_at (start b) ≡ Err errors.Short
unfolding head_at
head_no_major b long lt is_magic = rw (behind 0 4 b (omega arith), eq-eqb _ _ is_magic, behind 4 2 b long, cut 6 2 b long lt) refl

head_no_count : (b : List ℕ) → 8 ≤ length b → length b < 10 → big_number 4 b ≡ magic → version_in b → head_at (start b) ≡ Err errors.Short
unfolding head_at
head_no_count b long lt is_magic version = rw (behind 0 4 b (omega arith), eq-eqb _ _ is_magic, behind 4 2 b (omega arith), behind 6 2 b long, is_accepted_of _ _ version, cut 8 2 b long lt) refl

-- a front has no head, or it is wrong, or it is good
pub data HeadIs (b : List ℕ) : Type 0 where
  too_short : length b < 10 → head_at (start b) ≡ Err errors.Short → HeadIs b
  no_magic : 4 ≤ length b → big_number 4 b ≢ magic → HeadIs b
  no_version : 8 ≤ length b → big_number 4 b ≡ magic → ¬ version_in b → HeadIs b
  no_count : 10 ≤ length b → big_number 4 b ≡ magic → version_in b → big_number 2 (drop 8 b) ≡ 0 → HeadIs b
  good : HasHead b → HeadIs b

pub head_is : (b : List ℕ) → HeadIs b
head_is b =
    elim (cases_lt (length b) 4) [
      | inl lt ↦ too_short (omega arith) (head_short b lt)
      | inr four ↦ elim (cases_eq (big_number 4 b) magic) [
        | inr other ↦ no_magic four other
        | inl is_magic ↦ elim (cases_lt (length b) 6) [
          | inl lt ↦ too_short (omega arith) (head_no_minor b four lt is_magic)
          | inr six ↦ elim (cases_lt (length b) 8) [
            | inl lt ↦ too_short (omega arith) (head_no_major b six lt is_magic)
            | inr eight ↦ elim (cases_Bool (is_accepted (big_number 2 (drop 6 b)) (big_number 2 (drop 4 b)))) [
              | inr miss ↦ no_version eight is_magic (λ h. let hit = is_accepted_of _ _ h in cc)
              | inl hit ↦ elim (cases_lt (length b) 10) [
                | inl lt ↦ too_short (omega arith) (head_no_count b eight lt is_magic (accepted_is _ _ hit))
                | inr ten ↦ elim (cases_eq (big_number 2 (drop 8 b)) 0) [
                  | inl none ↦ no_count ten is_magic (accepted_is _ _ hit) none
                  | inr some ↦ good (record { long = ten; is_magic = is_magic; version = accepted_is _ _ hit; count = some })
                ]
              ]
            ]
          ]
        ]
      ]
    ]

pub good_head : (b : List ℕ) → HasHead b → head_at (start b) ≡ Ok (big_number 2 (drop 8 b), record { place = 10; rest = drop 10 b })
good_head b h = head_good b h.long h.is_magic h.version h.count
