-- `first_unit` finds exactly the unit whose spelling stands at the front.
use Rattle.std.proofs.Common.{◌≡◌, ℕ, ◌+◌, ◌*◌, ◌/◌, ◌%◌, ◌<◌, ◌≤◌, ◌⊎◌, List, [], ◌∷◌, ◌++◌, length, drop, get_or, Some, refl, sym, ap, ◌∙◌, inl, inr, arith, lit<, lit≤, append_assoc, length-append}
use Rattle.std.proofs.lemmas.Bool.Decides.{nat_tests}
use Rattle.jc_base.specs.ModifiedUtf8.{IsUnit, spelling, spelled, Spells}
use Rattle.std.specs.List.{AllByRecursion}
use Rattle.std.specs.Option.{unwrap_or, option_map}
use Rattle.std.proofs.lemmas.List.{append_cancel_left, append-nil}
use Rattle.jc_base.specs.FirstUnit.{six_bits, two_byte_unit, three_byte_unit, first_unit}

pub spelling_in_one : (u : ℕ) → 0 < u → u < 128 → spelling u ≡ u ∷ []
unfolding spelling
spelling_in_one u p q = grind (arith, nat_tests)

pub spelling_of_zero : spelling 0 ≡ 192 ∷ 128 ∷ []
unfolding spelling
spelling_of_zero = refl

pub spelling_in_two : (u : ℕ) → 128 ≤ u → u < 2048 → spelling u ≡ (192 + u / 64) ∷ (128 + u % 64) ∷ []
unfolding spelling
spelling_in_two u p q = grind (arith, nat_tests)

pub spelling_in_three : (u : ℕ) → 2048 ≤ u → spelling u ≡ (224 + u / 4096) ∷ (128 + u / 64 % 64) ∷ (128 + u % 64) ∷ []
unfolding spelling
spelling_in_three u p = grind (arith, nat_tests)

-- ---- what is spelled is found

found_in_one : (u : ℕ) (rest : List ℕ) → 0 < u → u < 128 → first_unit (u ∷ rest) ≡ Some (u, 1)
unfolding first_unit
found_in_one u rest p q = grind (arith, nat_tests)

found_in_two : (a b u : ℕ) (rest : List ℕ) → 192 ≤ a → a < 224 → 128 ≤ b → b < 192 → u ≡ a % 32 * 64 + b % 64 → (u ≡ 0) ⊎ (128 ≤ u) → first_unit (a ∷ b ∷ rest) ≡ Some (u, 2)
unfolding first_unit two_byte_unit six_bits
found_in_two a b u rest p q r s e h = grind (arith, nat_tests)

found_in_three : (a b c u : ℕ) (rest : List ℕ) → 224 ≤ a → a < 240 → 128 ≤ b → b < 192 → 128 ≤ c → c < 192 → u ≡ (a % 16 * 64 + b % 64) * 64 + c % 64 → 2048 ≤ u → first_unit (a ∷ b ∷ c ∷ rest) ≡ Some (u, 3)
unfolding first_unit three_byte_unit six_bits
found_in_three a b c u rest p q r s t w e h = grind (arith, nat_tests)

pub cases_of_unit : (u : ℕ) → (u ≡ 0) ⊎ (((0 < u) × (u < 128)) ⊎ (((128 ≤ u) × (u < 2048)) ⊎ (2048 ≤ u)))
cases_of_unit u = grind arith

pub found_first : (u : ℕ) (rest : List ℕ) → IsUnit u → first_unit (spelling u ++ rest) ≡ Some (u, length (spelling u))
found_first u rest h =
    elim (cases_of_unit u) [
      | inl z ↦ rw (z, spelling_of_zero) (found_in_two 192 128 0 rest (lit≤ tt) (lit< tt) (lit≤ tt) (lit< tt) refl (inl refl))
      | inr (inl p) ↦ rw (spelling_in_one u p.0 p.1) (found_in_one u rest p.0 p.1)
      | inr (inr (inl p)) ↦ rw (spelling_in_two u p.0 p.1) (found_in_two (192 + u / 64) (128 + u % 64) u rest (omega arith) (omega arith) (omega arith) (omega arith) (omega arith) (inr p.0))
      | inr (inr (inr p)) ↦ rw (spelling_in_three u p) (found_in_three (224 + u / 4096) (128 + u / 64 % 64) (128 + u % 64) u rest (omega arith) (omega arith) (omega arith) (omega arith) (omega arith) (omega arith) (omega arith) p)
    ]

-- ---- what is found is spelled

-- the spelling of u, of n bytes, stands at the front
pub record StandsFirst (bytes : List ℕ) (u n : ℕ) : Type 0 where
  pub unit : IsUnit u
  pub size : n ≡ length (spelling u)
  pub rest : List ℕ
  pub split : bytes ≡ spelling u ++ rest

six_bits_ways : (bytes : List ℕ) (k x : ℕ) → six_bits bytes k ≡ Some x → (128 ≤ get_or bytes k 0) × (get_or bytes k 0 < 192) × (x ≡ get_or bytes k 0 % 64)
unfolding six_bits
six_bits_ways bytes k x e = grind (arith, nat_tests)

two_ways : (a : ℕ) (bytes : List ℕ) (u : ℕ) → two_byte_unit a bytes ≡ Some u → ((x : ℕ) × (six_bits bytes 1 ≡ Some x) × (u ≡ a % 32 * 64 + x)) × ((u ≡ 0) ⊎ (128 ≤ u))
unfolding two_byte_unit
two_ways a bytes u e = grind (arith, nat_tests)

three_ways : (a : ℕ) (bytes : List ℕ) (u : ℕ) → three_byte_unit a bytes ≡ Some u → (x y : ℕ) × (six_bits bytes 1 ≡ Some x) × (six_bits bytes 2 ≡ Some y) × (u ≡ (a % 16 * 64 + x) * 64 + y) × (2048 ≤ u)
unfolding three_byte_unit
three_ways a bytes u e = grind (arith, nat_tests)

first_ways : (bytes : List ℕ) (u n : ℕ) → first_unit bytes ≡ Some (u, n)
    → ((n ≡ 1) × (u ≡ get_or bytes 0 0) × (0 < u) × (u < 128))
    ⊎ (((n ≡ 2) × (192 ≤ get_or bytes 0 0) × (get_or bytes 0 0 < 224) × (two_byte_unit (get_or bytes 0 0) bytes ≡ Some u))
    ⊎ ((n ≡ 3) × (224 ≤ get_or bytes 0 0) × (get_or bytes 0 0 < 240) × (three_byte_unit (get_or bytes 0 0) bytes ≡ Some u)))
unfolding first_unit
first_ways bytes u n e = grind (arith, nat_tests)

spelled_in_two : (a b u : ℕ) → 192 ≤ a → a < 224 → 128 ≤ b → b < 192 → u ≡ a % 32 * 64 + b % 64 → (u ≡ 0) ⊎ (128 ≤ u) → spelling u ≡ a ∷ b ∷ []
spelled_in_two a b u p q r s e h =
    elim h [
      | inl z ↦
          let high : 192 ≡ a = omega arith in
          let low : 128 ≡ b = omega arith in
          ap spelling z ∙ spelling_of_zero ∙ cc
      | inr large ↦
          let high : 192 + u / 64 ≡ a = omega arith in
          let low : 128 + u % 64 ≡ b = omega arith in
          spelling_in_two u large (omega arith) ∙ cc
    ]

spelled_in_three : (a b c u : ℕ) → 224 ≤ a → a < 240 → 128 ≤ b → b < 192 → 128 ≤ c → c < 192 → u ≡ (a % 16 * 64 + b % 64) * 64 + c % 64 → 2048 ≤ u → spelling u ≡ a ∷ b ∷ c ∷ []
spelled_in_three a b c u p q r s t w e large =
    let high : 224 + u / 4096 ≡ a = omega arith in
    let middle : 128 + u / 64 % 64 ≡ b = omega arith in
    let low : 128 + u % 64 ≡ c = omega arith in
    spelling_in_three u large ∙ cc

cons_one : (bytes : List ℕ) → 0 < get_or bytes 0 0 → bytes ≡ get_or bytes 0 0 ∷ drop 1 bytes
cons_one [] h = absurd (omega arith)
cons_one (a ∷ rest) h = refl

cons_two : (bytes : List ℕ) → 0 < get_or bytes 0 0 → 0 < get_or bytes 1 0 → bytes ≡ get_or bytes 0 0 ∷ get_or bytes 1 0 ∷ drop 2 bytes
cons_two [] h k = absurd (omega arith)
cons_two (a ∷ rest) h k = ap (λ xs. a ∷ xs) (cons_one rest k)

cons_three : (bytes : List ℕ) → 0 < get_or bytes 0 0 → 0 < get_or bytes 1 0 → 0 < get_or bytes 2 0 → bytes ≡ get_or bytes 0 0 ∷ get_or bytes 1 0 ∷ get_or bytes 2 0 ∷ drop 3 bytes
cons_three [] h k m = absurd (omega arith)
cons_three (a ∷ rest) h k m = ap (λ xs. a ∷ xs) (cons_two rest k m)

stands : (bytes : List ℕ) (u n : ℕ) (front rest : List ℕ) → IsUnit u → n ≡ length front → spelling u ≡ front → bytes ≡ front ++ rest → StandsFirst bytes u n
stands bytes u n front rest h size same split = record {
  unit = h;
  size = size ∙ ap length (sym same);
  rest = rest;
  split = split ∙ ap (λ xs. xs ++ rest) (sym same);
}

pub first_found : (bytes : List ℕ) (u n : ℕ) → first_unit bytes ≡ Some (u, n) → StandsFirst bytes u n
first_found bytes u n e =
    elim (first_ways bytes u n e) [
      | inl (one, is, low, high) ↦
          stands bytes u n (u ∷ []) (drop 1 bytes) (omega arith) one (spelling_in_one u low high)
          (rw (is) (cons_one bytes (omega arith)))
      | inr (inl (two, low, high, found)) ↦
          let ways = two_ways (get_or bytes 0 0) bytes u found in
          let next = six_bits_ways bytes 1 ways.0.0 ways.0.1 in
          stands bytes u n (get_or bytes 0 0 ∷ get_or bytes 1 0 ∷ []) (drop 2 bytes) (omega arith) two
          (spelled_in_two (get_or bytes 0 0) (get_or bytes 1 0) u low high next.0 next.1 (omega arith) ways.1)
          (cons_two bytes (omega arith) (omega arith))
      | inr (inr (three, low, high, found)) ↦
          let ways = three_ways (get_or bytes 0 0) bytes u found in
          let next = six_bits_ways bytes 1 ways.0 ways.2 in
          let last = six_bits_ways bytes 2 ways.1 ways.3 in
          stands bytes u n (get_or bytes 0 0 ∷ get_or bytes 1 0 ∷ get_or bytes 2 0 ∷ []) (drop 3 bytes) (omega arith) three
          (spelled_in_three (get_or bytes 0 0) (get_or bytes 1 0) (get_or bytes 2 0) u low high next.0 next.1 last.0 last.1 (omega arith) ways.5)
          (cons_three bytes (omega arith) (omega arith) (omega arith))
    ]

-- ---- one reading

pub spelling_takes_room : (u : ℕ) → 0 < length (spelling u)
spelling_takes_room u =
    elim (cases_of_unit u) [
      | inl z ↦ rw (z, spelling_of_zero) (omega arith)
      | inr (inl p) ↦ rw (spelling_in_one u p.0 p.1) (omega arith)
      | inr (inr (inl p)) ↦ rw (spelling_in_two u p.0 p.1) (omega arith)
      | inr (inr (inr p)) ↦ rw (spelling_in_three u p) (omega arith)
    ]

no_units : (us : List ℕ) → spelled us ≡ [] → us ≡ []
no_units [] e = refl
no_units (u ∷ us) e = absurd (omega (arith, spelling_takes_room u, length-append {A = ℕ}, ap length e))

same_first : (u v : ℕ) (xs ys : List ℕ) → IsUnit u → IsUnit v → spelling u ++ xs ≡ spelling v ++ ys → u ≡ v
same_first u v xs ys p q e =
    let same = sym (found_first u xs p) ∙ ap first_unit e ∙ found_first v ys q in
    ap (λ o. unwrap_or (option_map (λ found. found.0) o) 0) same

-- Where a text goes on after the units us, so does each other reading of it.
pub same_units_after : (us vs front : List ℕ) → AllByRecursion IsUnit us → AllByRecursion IsUnit vs → spelled us ++ front ≡ spelled vs → (ws : List ℕ) × (vs ≡ us ++ ws) × AllByRecursion IsUnit ws × (front ≡ spelled ws)
same_units_after [] vs front p q e = (vs, refl, q, e)
same_units_after (u ∷ us) [] front p q e =
    absurd (omega (arith, spelling_takes_room u, length-append {A = ℕ}, ap length e))
same_units_after (u ∷ us) (v ∷ vs) front p q e =
    let joined : spelling u ++ (spelled us ++ front) ≡ spelling v ++ spelled vs = sym (append_assoc (spelling u) (spelled us) front) ∙ e in
    let same : u ≡ v = same_first u v (spelled us ++ front) (spelled vs) p.0 q.0 joined in
    let left : spelling u ++ (spelled us ++ front) ≡ spelling u ++ spelled vs = joined ∙ ap (λ w. spelling w ++ spelled vs) (sym same) in
    let more = same_units_after us vs front p.1 q.1 (append_cancel_left (spelling u) (spelled us ++ front) (spelled vs) left) in
    (more.0, cc (more.1), more.2, more.3)

pub same_units : (us vs bytes : List ℕ) → Spells us bytes → Spells vs bytes → us ≡ vs
same_units us vs bytes p q =
    let more = same_units_after us vs [] p.0 q.0 (append-nil (spelled us) ∙ sym p.1 ∙ q.1) in
    let none : more.0 ≡ [] = no_units more.0 (sym more.3) in
    sym (more.1 ∙ ap (λ ws. us ++ ws) none ∙ append-nil us)
