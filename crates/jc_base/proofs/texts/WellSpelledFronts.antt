-- Fronts of a text: one more unit, and where no unit stands.
use Rattle.std.proofs.Common.{◌≡◌, ℕ, ◌+◌, ◌-◌, ◌<◌, ◌≤◌, List, [], ◌∷◌, ◌++◌, length, take, drop, Some, None, refl, sym, ap, ◌∙◌, subst, arith, append_assoc, length-append, length-drop, zero, suc, zero-add, suc-add, Bool, true, nat_lt, ◌&&◌, inl, inr}
use Rattle.std.specs.List.{AllByRecursion, list_all}
use Rattle.std.proofs.lemmas.List.{append-nil, take-append-drop, length-take-le, take_all, take_at, take_rest, drop_at}
use Rattle.std.proofs.lemmas.Bool.{cases_order, and_parts, ltb-true}
use Rattle.std.proofs.lemmas.Grind.{flat_map-append}
use Rattle.jc_base.specs.ModifiedUtf8.{IsUnit, spelling, spelled, Spells, IsWellSpelled, IsLongestFront}
use Rattle.jc_base.specs.FirstUnit.{first_unit}
use Rattle.jc_base.proofs.texts.FirstUnitIsSpelled.{first_found, found_first, same_units_after, spelling_takes_room, spelling_in_one}

all_append : (P : ℕ → Type 0) (xs ys : List ℕ) → AllByRecursion P xs → AllByRecursion P ys → AllByRecursion P (xs ++ ys)
all_append P [] ys p q = q
all_append P (x ∷ xs) ys p q = (p.0, all_append P xs ys p.1 q)

-- the first m bytes are the first n and some more
take_split : (n k : ℕ) (b : List ℕ) → take (n + k) b ≡ take n b ++ take k (drop n b)
take_split zero k b = ap (λ n. take n b) (zero-add k)
take_split (suc n) k [] = rw suc-add (sym (take_all k [] (omega arith)))
take_split (suc n) k (x ∷ b) = rw suc-add (ap (λ xs. x ∷ xs) (take_split n k b))

-- `&text[place..]`
abbrev from_place : List ℕ → ℕ → List ℕ
from_place text place = take (length text - place) (drop place text)

pub one_more : (text : List ℕ) (place u size : ℕ) → place ≤ length text → IsWellSpelled (take place text) → first_unit (from_place text place) ≡ Some (u, size)
    → (0 < size) × (place + size ≤ length text) × IsWellSpelled (take (place + size) text)
one_more text place u size within (us, (units, is)) found =
    let first = first_found (drop place text) u size (ap first_unit (sym (take_rest text place)) ∙ found) in
    let room : 0 < size = omega (arith, spelling_takes_room u, first.size) in
    let here : take size (drop place text) ≡ spelling u = ap (take size) first.split ∙ take_at (spelling u) first.rest size (sym first.size) in
    let all : take (place + size) text ≡ spelled (us ++ u ∷ []) =
    take_split place size text ∙ ap (λ xs. xs ++ take size (drop place text)) is ∙ ap (λ xs. spelled us ++ xs) (here ∙ sym (append-nil (spelling u))) ∙ sym (flat_map-append spelling us (u ∷ [])) in
    (room, omega (arith, length-drop {A = ℕ}, length-append {A = ℕ}, ap length first.split, first.size), (us ++ u ∷ [], (all_append IsUnit us (u ∷ []) units (first.unit, tt), all)))

nothing_stands : (rest front more ws : List ℕ) → 0 < length front → rest ≡ front ++ more → front ≡ spelled ws → AllByRecursion IsUnit ws → first_unit rest ≡ None → ⊥
nothing_stands rest front more [] room split is units none = omega (arith, ap length is)
nothing_stands rest front more (w ∷ ws) room split is units none =
    let here : rest ≡ spelling w ++ (spelled ws ++ more) = split ∙ ap (λ xs. xs ++ more) is ∙ append_assoc (spelling w) (spelled ws) more in
    let found = sym none ∙ ap first_unit here ∙ found_first w (spelled ws ++ more) units.0 in
    cc

pub longest_front : (text : List ℕ) (place : ℕ) → place < length text → IsWellSpelled (take place text) → first_unit (from_place text place) ≡ None → IsLongestFront text place
longest_front text place within (us, (units, is)) none = record {
  within = within;
  front = (us, (units, is));
  longest = λ m more in_text (vs, (others, spells)).
      let k : place + (m - place) ≡ m = omega arith in
      let front : List ℕ = take (m - place) (drop place text) in
      let split : spelled us ++ front ≡ spelled vs = ap (λ xs. xs ++ front) (sym is) ∙ sym (take_split place (m - place) text) ∙ ap (λ n. take n text) k ∙ spells in
      let after = same_units_after us vs front units others split in
      nothing_stands (drop place text) front (drop (m - place) (drop place text)) after.0
      (omega (arith, length-take-le (m - place) (drop place text) (omega (arith, length-drop {A = ℕ}))))
      (sym (take-append-drop (m - place) (drop place text))) after.3 after.2 (ap first_unit (sym (take_rest text place)) ∙ none);
}

pub whole_front : (text : List ℕ) (place : ℕ) → IsLongestFront text place → IsWellSpelled text → ⊥
whole_front text place longest well =
    longest.longest (length text) longest.within (omega arith) (subst IsWellSpelled (sym (take_all (length text) text (omega arith))) well)

-- the units us were read off the front of the text, and these bytes are left
pub record HasRead (us text rest : List ℕ) : Type 0 where
  pub all_units : AllByRecursion IsUnit us
  pub split : text ≡ spelled us ++ rest

pub next_read : (us more text rest : List ℕ) (u size : ℕ) → HasRead us text rest → first_unit rest ≡ Some (u, size) → more ≡ us ++ u ∷ []
    → HasRead more text (from_place rest size)
next_read us more text rest u size read found is =
    let first = first_found rest u size found in
    let left : from_place rest size ≡ first.rest =
    take_rest rest size ∙ ap (drop size) first.split ∙ drop_at (spelling u) first.rest size (sym first.size) in
    let all : spelled more ≡ spelled us ++ spelling u =
    ap spelled is ∙ flat_map-append spelling us (u ∷ []) ∙ ap (λ xs. spelled us ++ xs) (append-nil (spelling u)) in
    record {
      all_units = subst (AllByRecursion IsUnit) (sym is) (all_append IsUnit us (u ∷ []) read.all_units (first.unit, tt));
      split = read.split ∙ ap (λ xs. spelled us ++ xs) first.split ∙ sym (append_assoc (spelled us) (spelling u) first.rest)
          ∙ ap (λ xs. xs ++ first.rest) (sym all) ∙ ap (λ xs. spelled more ++ xs) (sym left);
    }

nothing_left : (rest ws : List ℕ) → first_unit rest ≡ None → rest ≡ spelled ws → AllByRecursion IsUnit ws → rest ≡ []
nothing_left rest [] none is units = is
nothing_left rest (w ∷ ws) none is units =
    let found = sym none ∙ ap first_unit is ∙ found_first w (spelled ws) units.0 in
    absurd (cc)

pub all_read : (us text rest : List ℕ) → IsWellSpelled text → HasRead us text rest → first_unit rest ≡ None → Spells us text
all_read us text rest (vs, (others, spells)) read none =
    let after = same_units_after us vs rest read.all_units others (sym read.split ∙ spells) in
    let nothing : rest ≡ [] = nothing_left rest after.0 none after.3 after.2 in
    (read.all_units, read.split ∙ ap (λ xs. spelled us ++ xs) nothing ∙ append-nil (spelled us))

pub one_longest : (text : List ℕ) (m n : ℕ) → IsLongestFront text m → IsLongestFront text n → m ≡ n
one_longest text m n p q =
    elim (cases_order m n) [
      | inl e ↦ e
      | inr (inl below) ↦ absurd (p.longest n below (omega (arith, q.within)) q.front)
      | inr (inr above) ↦ absurd (q.longest m above (omega (arith, p.within)) p.front)
    ]

-- what begins with no unit is no text
pub none_stands : (bytes : List ℕ) → 0 < length bytes → first_unit bytes ≡ None → IsWellSpelled bytes → ⊥
none_stands bytes room none (us, (units, is)) = omega (arith, ap length (nothing_left bytes us none is units))

-- ---- texts made of texts

pub append_spelled : (a b : List ℕ) → IsWellSpelled a → IsWellSpelled b → IsWellSpelled (a ++ b)
append_spelled a b (us, (p, is)) (vs, (q, are)) =
    (us ++ vs, (all_append IsUnit us vs p q, ap (λ xs. xs ++ b) is ∙ ap (λ xs. spelled us ++ xs) are ∙ sym (flat_map-append spelling us vs)))

abbrev pub is_ascii : ℕ → Bool
is_ascii c = nat_lt 0 c && nat_lt c 0x80

-- Characters below 0x80 spell themselves.
pub ascii_spelled : (b : List ℕ) → list_all is_ascii b ≡ true → IsWellSpelled b
ascii_spelled [] h = ([], (tt, refl))
ascii_spelled (c ∷ b) h =
    let parts = and_parts (is_ascii c) (list_all is_ascii b) h in
    let bounds = and_parts (nat_lt 0 c) (nat_lt c 0x80) parts.0 in
    let low = ltb-true 0 c bounds.0 in
    let high = ltb-true c 0x80 bounds.1 in
    append_spelled (c ∷ []) b (c ∷ [], ((omega arith, tt), sym (append-nil (spelling c) ∙ spelling_in_one c low high))) (ascii_spelled b parts.1)

pub slash_spelled : IsWellSpelled (47 ∷ [])
slash_spelled = ascii_spelled (47 ∷ []) refl
