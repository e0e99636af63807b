-- Plain runs of texts and paths.
use Rattle.std.proofs.Common.{◌≡◌, ◌<◌, ◌++◌, ℕ, suc, true, false, List, [], ◌∷◌, length, take, drop, Option, Some, None, refl, sym, ap, ◌∙◌, subst, arith, inl, inr, length-append}
use Rattle.std.specs.Prelude.{codes, is_some}
use Rattle.std.specs.Int.{to_be_bytes, w16}
use Rattle.std.specs.List.{flat_map, list_all, prefix_len, AllByRecursion}
use Rattle.std.specs.Option.{option_map_or}
use Rattle.std.proofs.lemmas.Bool.{and_parts, cases_Bool, ne_eqb}
use Rattle.std.proofs.lemmas.Bool.Decides.{nat_tests}
use Rattle.jc_base.specs.ModifiedUtf8.{IsUnit, spelled}
use Rattle.jc_base.specs.TextTests.{units_of}
use Rattle.jc_base.specs.CodeUnits.{units_before}
use Rattle.jc_base.proofs.texts.FirstUnitIsSpelled.{spelling_in_one}
use Rattle.jc_base.proofs.texts.TestsDecide.{units_decide, is_some_of}
use Rattle.jc_base.proofs.texts.UnitsBefore.{units_before-spelling, units_before-text}
use Rattle.jc_text.specs.Numbers.{hexadecimal}
use Rattle.jc_text.specs.Escapes.{is_plain, path_byte_text, shown, unit_text}

-- by whether the first is plain
prefix_yes : (c : ℕ) (xs : List ℕ) → is_plain c ≡ true → prefix_len is_plain (c ∷ xs) ≡ suc (prefix_len is_plain xs)
prefix_yes c xs e = rw e (omega arith)

prefix_no : (c : ℕ) (xs : List ℕ) → is_plain c ≡ false → prefix_len is_plain (c ∷ xs) ≡ 0
prefix_no c xs e = rw e refl

-- what holds with no plain front, and behind one more plain character, holds with the plain front that a text has
pub by_plain_front : (P : List ℕ → List ℕ → List ℕ → Type 0) → ((xs : List ℕ) → P xs [] xs)
    → ((c : ℕ) (xs plain rest : List ℕ) → is_plain c ≡ true → P xs plain rest → P (c ∷ xs) (c ∷ plain) rest)
    → (xs : List ℕ) → P xs (take (prefix_len is_plain xs) xs) (drop (prefix_len is_plain xs) xs)
by_plain_front P none more [] = none []
by_plain_front P none more (c ∷ xs) =
    elim (cases_Bool (is_plain c)) [
      | inl hit ↦
          subst (λ (n : ℕ). P (c ∷ xs) (take n (c ∷ xs)) (drop n (c ∷ xs))) (sym (prefix_yes c xs hit))
          (more c xs (take (prefix_len is_plain xs) xs) (drop (prefix_len is_plain xs) xs) hit (by_plain_front P none more xs))
      | inr miss ↦ subst (λ (n : ℕ). P (c ∷ xs) (take n (c ∷ xs)) (drop n (c ∷ xs))) (sym (prefix_no c xs miss)) (none (c ∷ xs))
    ]

pub plain_byte : (c : ℕ) → is_plain c ≡ true → path_byte_text c ≡ c ∷ []
plain_byte c e = rw e refl

pub plain_unit : (c : ℕ) → is_plain c ≡ true → unit_text c ≡ c ∷ []
plain_unit c e = rw e refl

pub backslash_byte : (c : ℕ) → c ≡ 92 → path_byte_text c ≡ codes "\\\\"
backslash_byte c e = rw e refl

pub backslash_unit : (c : ℕ) → c ≡ 92 → unit_text c ≡ codes "\\\\"
backslash_unit c e = rw e refl

pub other_byte : (c : ℕ) → is_plain c ≡ false → (c ≡ 92 → ⊥) → path_byte_text c ≡ codes "\\x" ++ hexadecimal (c ∷ [])
other_byte c e other = rw (e, ne_eqb c 92 other) refl

pub other_unit : (c : ℕ) → is_plain c ≡ false → (c ≡ 92 → ⊥) → unit_text c ≡ codes "\\u" ++ hexadecimal (to_be_bytes w16 c)
other_unit c e other = rw (e, ne_eqb c 92 other) refl

pub plain_path : (path : List ℕ) → flat_map path_byte_text path ≡ take (prefix_len is_plain path) path ++ flat_map path_byte_text (drop (prefix_len is_plain path) path)
plain_path =
    by_plain_front (λ xs plain rest. flat_map path_byte_text xs ≡ plain ++ flat_map path_byte_text rest) (λ xs. refl)
    (λ c xs plain rest hit e. rw (plain_byte c hit) (ap (λ l. c ∷ l) e))

-- a plain byte spells the unit of its number
plain_is_spelled : (c : ℕ) → is_plain c ≡ true → (c < 128) × (0 < c)
plain_is_spelled c e = grind (arith, nat_tests)

first_unit_is : (c : ℕ) (xs : List ℕ) → is_plain c ≡ true → units_before (c ∷ xs) ≡ c ∷ units_before xs
first_unit_is c xs hit =
    let bounds = plain_is_spelled c hit in
    ap (λ l. units_before (l ++ xs)) (sym (spelling_in_one c bounds.1 bounds.0)) ∙ units_before-spelling c xs (omega (arith, bounds.0))

pub units_before-plain : (text : List ℕ) → units_before text ≡ take (prefix_len is_plain text) text ++ units_before (drop (prefix_len is_plain text) text)
units_before-plain =
    by_plain_front (λ xs plain rest. units_before xs ≡ plain ++ units_before rest) (λ xs. refl)
    (λ c xs plain rest hit e. first_unit_is c xs hit ∙ ap (λ l. c ∷ l) e)

pub plain_units : (text : List ℕ) → flat_map unit_text (units_before text) ≡ take (prefix_len is_plain text) text ++ flat_map unit_text (units_before (drop (prefix_len is_plain text) text))
plain_units =
    by_plain_front (λ xs plain rest. flat_map unit_text (units_before xs) ≡ plain ++ flat_map unit_text (units_before rest)) (λ xs. refl)
    (λ c xs plain rest hit e. ap (flat_map unit_text) (first_unit_is c xs hit) ∙ rw (plain_unit c hit) (ap (λ l. c ∷ l) e))

-- ---- where a slice is cut behind its plain front

pub plain_path_split : (left plain rest : List ℕ) → plain ≡ take (prefix_len is_plain left) left → rest ≡ drop (prefix_len is_plain left) left
    → flat_map path_byte_text left ≡ plain ++ flat_map path_byte_text rest
plain_path_split left plain rest p q = rw (p, q) (plain_path left)

pub plain_units_split : (left plain rest : List ℕ) → plain ≡ take (prefix_len is_plain left) left → rest ≡ drop (prefix_len is_plain left) left
    → flat_map unit_text (units_before left) ≡ plain ++ flat_map unit_text (units_before rest)
plain_units_split left plain rest p q = rw (p, q) (plain_units left)

pub is_empty : (xs : List ℕ) → length xs ≡ 0 → xs ≡ []
is_empty [] e = refl
is_empty (x ∷ xs) e = absurd (omega arith)

-- one unit behind the plain front is fewer units
pub fewer_units : (left rest behind : List ℕ) (u : ℕ) → rest ≡ drop (prefix_len is_plain left) left → units_before rest ≡ u ∷ units_before behind
    → length (units_before behind) < length (units_before left)
fewer_units left rest behind u q e =
    omega (arith, ap length (units_before-plain left), length-append (take (prefix_len is_plain left) left) (units_before (drop (prefix_len is_plain left) left)), ap (λ l. length (units_before l)) q, ap length e)

-- ---- a text as it is shown

record IsItself (text : List ℕ) : Type 0 where
  units : AllByRecursion IsUnit text
  spelling : text ≡ spelled text
  shows : flat_map unit_text text ≡ text

plain_is_itself : (text : List ℕ) → list_all is_plain text ≡ true → IsItself text
plain_is_itself [] e = record { units = tt; spelling = refl; shows = refl }
plain_is_itself (c ∷ xs) e =
    let first = and_parts (is_plain c) (list_all is_plain xs) e in
    let rest = plain_is_itself xs first.1 in
    let bounds = plain_is_spelled c first.0 in
    record {
      units = (omega (arith, bounds.0), rest.units);
      spelling = ap (λ l. c ∷ l) rest.spelling ∙ ap (λ l. l ++ spelled xs) (sym (spelling_in_one c bounds.1 bounds.0));
      shows = rw (plain_unit c first.0) (ap (λ l. c ∷ l) rest.shows);
    }

shown_by : (text units : List ℕ) → units_of text ≡ Some units → shown text ≡ flat_map unit_text units
shown_by text units e = ap (λ o. option_map_or (flat_map unit_text) o (codes "!" ++ hexadecimal text)) e

pub shown_plain : (text : List ℕ) → list_all is_plain text ≡ true → shown text ≡ text
shown_plain text e =
    let itself = plain_is_itself text e in
    shown_by text text ((units_decide text text).1 (itself.units, itself.spelling)) ∙ itself.shows

pub shown_spelled : (text : List ℕ) → is_some (units_of text) ≡ true → shown text ≡ flat_map unit_text (units_before text)
shown_spelled text e =
    let units = is_some_of (units_of text) e in
    shown_by text units.0 units.1 ∙ ap (flat_map unit_text) (sym (units_before-text units.0 text ((units_decide text units.0).0 units.1)))

none_of : {A : Type 0} (o : Option A) → is_some o ≡ false → o ≡ None
none_of None e = refl
none_of (Some x) e = absurd cc

pub shown_unspelled : (text : List ℕ) → is_some (units_of text) ≡ false → shown text ≡ codes "!" ++ hexadecimal text
shown_unspelled text e = ap (λ o. option_map_or (flat_map unit_text) o (codes "!" ++ hexadecimal text)) (none_of (units_of text) e)
