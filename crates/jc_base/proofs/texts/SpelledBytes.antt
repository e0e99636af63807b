-- The bytes of a text: their range, and those below 0x80.
use Rattle.std.proofs.Common.{◌≡◌, ℕ, ◌+◌, ◌/◌, ◌%◌, ◌<◌, ◌≤◌, ◌⊎◌, ◌↔◌, List, [], ◌∷◌, inl, inr, zero, suc, sym, subst, arith}
use Rattle.std.specs.List.{All, AllByRecursion, Contains}
use Rattle.std.proofs.lemmas.List.Elements.{All-from_recursion, All-nil, All-append, All-contains, Contains-append_left, Contains-append_right, Contains-append_cases}
use Rattle.jc_base.specs.ModifiedUtf8.{IsUnit, spelling, spelled, IsWellSpelled}
use Rattle.jc_base.proofs.texts.FirstUnitIsSpelled.{cases_of_unit, spelling_of_zero, spelling_in_one, spelling_in_two, spelling_in_three}

abbrev InRange : ℕ → Type 0
InRange b = (0 < b) × (b < 0xf0)

spelling_in_range : (u : ℕ) → IsUnit u → All InRange (spelling u)
spelling_in_range u unit =
    elim (cases_of_unit u) [
      | inl z ↦ rw (z, spelling_of_zero) (All-from_recursion InRange (192 ∷ 128 ∷ []) ((omega arith, omega arith), ((omega arith, omega arith), tt)))
      | inr (inl p) ↦ rw (spelling_in_one u p.0 p.1) (All-from_recursion InRange (u ∷ []) ((omega arith, omega arith), tt))
      | inr (inr (inl p)) ↦ rw (spelling_in_two u p.0 p.1) (All-from_recursion InRange ((192 + u / 64) ∷ (128 + u % 64) ∷ []) ((omega arith, omega arith), ((omega arith, omega arith), tt)))
      | inr (inr (inr p)) ↦ rw (spelling_in_three u p) (All-from_recursion InRange ((224 + u / 4096) ∷ (128 + u / 64 % 64) ∷ (128 + u % 64) ∷ []) ((omega arith, omega arith), ((omega arith, omega arith), ((omega arith, omega arith), tt))))
    ]

spelled_in_range : (us : List ℕ) → AllByRecursion IsUnit us → All InRange (spelled us)
spelled_in_range [] units = All-nil InRange
spelled_in_range (u ∷ us) units = All-append InRange (spelling u) (spelled us) (spelling_in_range u units.0) (spelled_in_range us units.1)

pub text_in_range : (bytes : List ℕ) → IsWellSpelled bytes → All (λ b. (0 < b) × (b < 0xf0)) bytes
text_in_range bytes (us, (units, is)) = subst (All InRange) (sym is) (spelled_in_range us units)

-- ---- a character below 0x80

-- a unit is spelled by its own byte, or by bytes from 0x80 on
spelling_ways : (u : ℕ) → (((0 < u) × (u < 0x80)) × (spelling u ≡ u ∷ [])) ⊎ (((u ≡ 0) ⊎ (0x80 ≤ u)) × All (λ b. 0x80 ≤ b) (spelling u))
spelling_ways u =
    elim (cases_of_unit u) [
      | inl z ↦ inr (inl z, rw (z, spelling_of_zero) (All-from_recursion (λ b. 0x80 ≤ b) (192 ∷ 128 ∷ []) (omega arith, (omega arith, tt))))
      | inr (inl p) ↦ inl (p, spelling_in_one u p.0 p.1)
      | inr (inr (inl p)) ↦ inr (inr p.0, rw (spelling_in_two u p.0 p.1) (All-from_recursion (λ b. 0x80 ≤ b) ((192 + u / 64) ∷ (128 + u % 64) ∷ []) (omega arith, (omega arith, tt))))
      | inr (inr (inr p)) ↦ inr (inr (omega arith), rw (spelling_in_three u p) (All-from_recursion (λ b. 0x80 ≤ b) ((224 + u / 4096) ∷ (128 + u / 64 % 64) ∷ (128 + u % 64) ∷ []) (omega arith, (omega arith, (omega arith, tt)))))
    ]

contained_alone : (u c : ℕ) → Contains (u ∷ []) c → u ≡ c
contained_alone u c (zero, within, is) = is
contained_alone u c (suc k, within, is) = absurd (omega arith)

one_alike : (u c : ℕ) → 0 < c → c < 0x80 → Contains (u ∷ []) c ↔ Contains (spelling u) c
one_alike u c p q =
    elim (spelling_ways u) [
      | inl (low, is) ↦ (λ h. subst (λ xs. Contains xs c) (sym is) h, λ h. subst (λ xs. Contains xs c) is h)
      | inr (other, high) ↦ (λ h. let is = contained_alone u c h in elim other [ inl z ↦ absurd (omega arith) | inr large ↦ absurd (omega arith) ], λ h. let above = All-contains (λ b. 0x80 ≤ b) (spelling u) c high h in absurd (omega arith))
    ]

pub ascii_alike : (us : List ℕ) (c : ℕ) → 0 < c → c < 0x80 → Contains us c ↔ Contains (spelled us) c
ascii_alike [] c p q = (λ h. h, λ h. h)
ascii_alike (u ∷ us) c p q =
    let one = one_alike u c p q in
    let more = ascii_alike us c p q in (
      λ h. elim (Contains-append_cases (u ∷ []) us c h) [
        | inl here ↦ Contains-append_left (spelling u) (spelled us) c (one.0 here)
        | inr there ↦ Contains-append_right (spelling u) (spelled us) c (more.0 there)
      ],
      λ h. elim (Contains-append_cases (spelling u) (spelled us) c h) [
        | inl here ↦ Contains-append_left (u ∷ []) us c (one.1 here)
        | inr there ↦ Contains-append_right (u ∷ []) us c (more.1 there)
      ],
    )
