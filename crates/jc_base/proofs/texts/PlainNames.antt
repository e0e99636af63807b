-- What is told as a plain class name is a class name.
use Rattle.std.proofs.Common.{◌≡◌, ◌∙◌, inl, inr, ℕ, zero, suc, ◌+◌, ◌<◌, Bool, true, false, cond, not, ◌&&◌, ◌||◌, ◌==◌, eqb, List, [], ◌∷◌, length, drop, get_or, refl, sym, ap, subst, arith, add-one, drop-cons}
use Rattle.std.specs.List.{list_all, list_any, AllByRecursion, onto_first, slice_split}
use Rattle.std.proofs.lemmas.Bool.{cases_Bool, eqb-false, false≢true, and_parts, ne_eqb}
use Rattle.std.proofs.lemmas.List.Elements.{All-from_recursion}
use Rattle.jc_base.specs.Names.{name_stops, IsClassName, IsUnqualifiedName}
use Rattle.jc_base.specs.inside.PlainNames.{are_plain_parts, is_plain_byte, may_follow, place_behind}
use Rattle.jc_base.proofs.texts.Names.{class_name_by_split, name_by_test}
use Rattle.jc_base.proofs.texts.WellSpelledFronts.{is_ascii}

both : (a b : Bool) → a ≡ true → b ≡ true → a && b ≡ true
both a b e f = rw (e, f) refl

is_not : (b : Bool) → not b ≡ true → b ≡ false
is_not true e = absurd (false≢true e)
is_not false e = refl

-- such a byte is below 0x80 and none of the characters
plain_byte : (c : ℕ) → is_plain_byte c ≡ true → (is_ascii c ≡ true) × (not (list_any (λ s. eqb s c) name_stops) ≡ true)
plain_byte c e =
    let three = and_parts (is_ascii c && not (eqb c 46) && not (eqb c 59) && not (eqb c 91)) (not (eqb c 47)) e in
    let two = and_parts (is_ascii c && not (eqb c 46) && not (eqb c 59)) (not (eqb c 91)) three.0 in
    let one = and_parts (is_ascii c && not (eqb c 46)) (not (eqb c 59)) two.0 in
    let none = and_parts (is_ascii c) (not (eqb c 46)) one.0 in
    let dot = other 46 c (is_not _ none.1) in
    let semicolon = other 59 c (is_not _ one.1) in
    let bracket = other 91 c (is_not _ two.1) in
    let slash = other 47 c (is_not _ three.1) in
    (none.0, no_stop (eqb 46 c) (eqb 59 c) (eqb 91 c) (eqb 47 c) dot semicolon bracket slash)
  where
    no_stop : (a b d f : Bool) → a ≡ false → b ≡ false → d ≡ false → f ≡ false → not (a || (b || (d || (f || false)))) ≡ true
    no_stop a b d f p q r s = rw (p, q, r, s) refl

    other : (n c : ℕ) → eqb c n ≡ false → eqb n c ≡ false
    other n c e = ne_eqb n c (λ same. eqb-false c n e (sym same))

ascii_bytes : (b : List ℕ) → list_all is_plain_byte b ≡ true → list_all is_ascii b ≡ true
ascii_bytes [] e = refl
ascii_bytes (c ∷ b) e =
    let parts = and_parts (is_plain_byte c) (list_all is_plain_byte b) e in
    both (is_ascii c) (list_all is_ascii b) (plain_byte c parts.0).0 (ascii_bytes b parts.1)

lacking_bytes : (b : List ℕ) → list_all is_plain_byte b ≡ true → list_all (λ c. not (list_any (λ s. eqb s c) name_stops)) b ≡ true
lacking_bytes [] e = refl
lacking_bytes (c ∷ b) e =
    let parts = and_parts (is_plain_byte c) (list_all is_plain_byte b) e in
    both (not (list_any (λ s. eqb s c) name_stops)) (list_all (λ c. not (list_any (λ s. eqb s c) name_stops)) b) (plain_byte c parts.0).1 (lacking_bytes b parts.1)

pub plain_part : (b : List ℕ) → 0 < length b → list_all is_plain_byte b ≡ true → IsUnqualifiedName b
plain_part b some plain = name_by_test b some (ascii_bytes b plain) (lacking_bytes b plain)

-- the parts into which a text is cut: the first is plain, and not empty where a part begins, and the others are names
record Parts (begins : Bool) (b : List ℕ) : Type 0 where
  first : List ℕ
  others : List (List ℕ)
  split : slice_split (λ c. eqb c 47) b ≡ first ∷ others
  plain : list_all is_plain_byte first ≡ true
  some : begins ≡ true → 0 < length first
  names : AllByRecursion IsUnqualifiedName others

parts_of : (begins : Bool) (b : List ℕ) → are_plain_parts begins b ≡ true → Parts begins b
parts_of true [] e = absurd (false≢true e)
parts_of false [] e = record { first = []; others = []; split = refl; plain = refl; some = λ f. absurd (false≢true f); names = tt }
parts_of begins (c ∷ b) e =
    let steps = and_parts (may_follow begins c) (are_plain_parts (eqb c 47) b) e in
    elim (cases_Bool (eqb c 47)) [
      | inl slash ↦
          let rest = parts_of true b (ap (λ s. are_plain_parts s b) (sym slash) ∙ steps.1) in
          let none : not begins ≡ true = ap (λ s. cond s (not begins) (is_plain_byte c)) (sym slash) ∙ steps.0 in
          record {
            first = [];
            others = rest.first ∷ rest.others;
            split = ap (λ s. cond s ([] ∷ slice_split (λ x. eqb x 47) b) (onto_first c (slice_split (λ x. eqb x 47) b))) slash ∙ ap (λ parts. [] ∷ parts) rest.split;
            plain = refl;
            some = λ f. absurd (false≢true (ap not (sym f) ∙ none));
            names = (plain_part rest.first (rest.some refl) rest.plain, rest.names);
          }
      | inr other ↦
          let rest = parts_of false b (ap (λ s. are_plain_parts s b) (sym other) ∙ steps.1) in
          record {
            first = c ∷ rest.first;
            others = rest.others;
            split = ap (λ s. cond s ([] ∷ slice_split (λ x. eqb x 47) b) (onto_first c (slice_split (λ x. eqb x 47) b))) other ∙ ap (onto_first c) rest.split;
            plain = both (is_plain_byte c) (list_all is_plain_byte rest.first) (ap (λ s. cond s (not begins) (is_plain_byte c)) (sym other) ∙ steps.0) rest.plain;
            some = λ f. omega arith;
            names = rest.names;
          }
    ]

pub plain_class_name : (b : List ℕ) → are_plain_parts true b ≡ true → IsClassName b
plain_class_name b e =
    let parts = parts_of true b e in
    (class_name_by_split b).0 (All-from_recursion IsUnqualifiedName (slice_split (λ c. eqb c 47) b) (subst (AllByRecursion IsUnqualifiedName) (sym parts.split) (plain_part parts.first (parts.some refl) parts.plain, parts.names)))

-- one character on
pub parts_left : (b : List ℕ) (i : ℕ) (d : ℕ) (begins : Bool) → i < length b → are_plain_parts begins (drop i b) ≡ (may_follow begins (get_or b i d) && are_plain_parts (eqb (get_or b i d) 47) (drop (i + 1) b))
parts_left b i d begins within =
    let e : drop i b ≡ get_or b i d ∷ drop (i + 1) b = rw add-one (drop-cons b i d within) in
    ap (are_plain_parts begins) e

-- ---- places

step : (begins slash plain : Bool) (left : Bool → Bool)
    → let next : ℕ = cond (not (cond slash (not begins) plain)) 2 (cond slash 0 1) in
    (not (next == 2) && left (next == 0)) ≡ (cond slash (not begins) plain && left slash)
step true true plain left = refl
step false true plain left = refl
step begins false true left = refl
step begins false false left = refl

-- one byte on
pub place_step : (place c : ℕ) (left : Bool → Bool) → place < 3
    → (not (place_behind place c == 2) && left (place_behind place c == 0)) ≡ (not (place == 2) && (may_follow (place == 0) c && left (c == 47)))
place_step zero c left l = step true (c == 47) (is_plain_byte c) left
place_step (suc zero) c left l = step false (c == 47) (is_plain_byte c) left
place_step (suc (suc zero)) c left l = refl
place_step (suc (suc (suc place))) c left l = absurd (omega (arith, l))

below_three : (x y : Bool) → cond x 2 (cond y 0 1) < 3
below_three true y = omega arith
below_three false true = omega arith
below_three false false = omega arith

pub place_within : (place c : ℕ) → place_behind place c < 3
place_within place c = below_three _ _

-- a name ends within a part
pub ends_within : (place : ℕ) → place < 3 → (place == 1) ≡ (not (place == 2) && not (place == 0))
ends_within zero l = refl
ends_within (suc zero) l = refl
ends_within (suc (suc zero)) l = refl
ends_within (suc (suc (suc place))) l = absurd (omega (arith, l))

-- a plain character is within a part that begins with it
pub plain_place : (c : ℕ) → (place_behind 0 c == 1) ≡ is_plain_byte c
plain_place c = elim (cases_Bool (c == 47)) [
  | inl slash ↦ ap (λ s. (cond (not (cond s false (is_plain_byte c))) 2 (cond s 0 1)) == 1) slash ∙ sym (no_slash slash)
  | inr other ↦ ap (λ s. (cond (not (cond s false (is_plain_byte c))) 2 (cond s 0 1)) == 1) other ∙ by (is_plain_byte c)
]
  where
    and_none : (b : Bool) → (b && false) ≡ false
    and_none true = refl
    and_none false = refl

    no_slash : (c == 47) ≡ true → is_plain_byte c ≡ false
    no_slash e = ap (λ s. is_ascii c && not (eqb c 46) && not (eqb c 59) && not (eqb c 91) && not s) e ∙ and_none _

    by : (plain : Bool) → ((cond (not plain) 2 1) == 1) ≡ plain
    by true = refl
    by false = refl
