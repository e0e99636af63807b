-- The instructions of a code, one at each step.
use Rattle.std.proofs.Common.{◌≡◌, ℕ, zero, suc, ◌+◌, ◌-◌, ◌≤◌, List, [], ◌∷◌, length, Option, Some, None, ◌⊎◌, inl, inr, refl, sym, ap, ◌∙◌, arith}
use Rattle.jc_code.specs.declared.insn.Insn.{Insn}
use Rattle.jc_code.specs.InsnReading.{after_insn, insn_value, insns_within, end_within, insns_from, end_from}
use Rattle.jc_code.proofs.decoding.Shorter.{insn_shorter}

-- the place behind the first instruction
abbrev pub behind : ℕ → List ℕ → List ℕ → ℕ
behind at xs rest = at + length xs - length rest

pub none_within : (n at : ℕ) (xs : List ℕ) → after_insn at xs ≡ None → (insns_within n at xs ≡ []) × (end_within n at xs ≡ at)
unfolding insns_within end_within
none_within zero at xs e = (refl, refl)
none_within (suc n) at xs e = (rw e refl, rw e refl)

pub first_within : (n at : ℕ) (xs rest : List ℕ) → after_insn at xs ≡ Some rest
    → (insns_within (suc n) at xs ≡ (at, insn_value at xs) ∷ insns_within n (behind at xs rest) rest) × (end_within (suc n) at xs ≡ end_within n (behind at xs rest) rest)
unfolding insns_within end_within
first_within n at xs rest e = (rw e refl, rw e refl)

-- either an instruction stands at the front or none
pub is_first : {X : Type 0} (o : Option X) → (o ≡ None) ⊎ ((x : X) × (o ≡ Some x))
is_first None = inl refl
is_first (Some x) = inr (x, refl)

pub nothing_in : (at : ℕ) (xs : List ℕ) → length xs ≡ 0 → after_insn at xs ≡ None
nothing_in at xs e =
    elim (is_first (after_insn at xs)) [
      | inl none ↦ none
      | inr some ↦ absurd (let shorter = insn_shorter at xs some.0 some.1 in omega arith)
    ]

-- more steps than bytes change nothing
same_within : (n m at : ℕ) (xs : List ℕ) → length xs ≤ n → length xs ≤ m → (insns_within n at xs ≡ insns_within m at xs) × (end_within n at xs ≡ end_within m at xs)
same_within zero m at xs le_n le_m =
    let none = nothing_in at xs (omega arith) in
    ((none_within zero at xs none).0 ∙ sym (none_within m at xs none).0, (none_within zero at xs none).1 ∙ sym (none_within m at xs none).1)
same_within (suc n) zero at xs le_n le_m =
    let none = nothing_in at xs (omega arith) in
    ((none_within (suc n) at xs none).0 ∙ sym (none_within zero at xs none).0, (none_within (suc n) at xs none).1 ∙ sym (none_within zero at xs none).1)
same_within (suc n) (suc m) at xs le_n le_m =
    elim (is_first (after_insn at xs)) [
      | inl none ↦ ((none_within (suc n) at xs none).0 ∙ sym (none_within (suc m) at xs none).0, (none_within (suc n) at xs none).1 ∙ sym (none_within (suc m) at xs none).1)
      | inr some ↦
          let rest = some.0 in
          let shorter = insn_shorter at xs rest some.1 in
          let others = same_within n m (behind at xs rest) rest (omega arith) (omega arith) in
          let one = first_within n at xs rest some.1 in
          let other = first_within m at xs rest some.1 in
          (one.0 ∙ ap (λ (items : List (ℕ × Insn)). (at, insn_value at xs) ∷ items) others.0 ∙ sym other.0, one.1 ∙ others.1 ∙ sym other.1)
    ]

pub none_from : (at : ℕ) (xs : List ℕ) → after_insn at xs ≡ None → (insns_from at xs ≡ []) × (end_from at xs ≡ at)
unfolding insns_from end_from
none_from at xs e = none_within (length xs) at xs e

pub first_from : (at : ℕ) (xs rest : List ℕ) → after_insn at xs ≡ Some rest
    → (insns_from at xs ≡ (at, insn_value at xs) ∷ insns_from (behind at xs rest) rest) × (end_from at xs ≡ end_from (behind at xs rest) rest)
unfolding insns_from end_from
first_from at xs rest e =
    let shorter = insn_shorter at xs rest e in
    let k = length xs - 1 in
    let size : length xs ≡ suc k = omega arith in
    let one = first_within k at xs rest e in
    let others = same_within k (length rest) (behind at xs rest) rest (omega arith) (omega arith) in (
      ap (λ (n : ℕ). insns_within n at xs) size ∙ one.0 ∙ ap (λ (items : List (ℕ × Insn)). (at, insn_value at xs) ∷ items) others.0,
      ap (λ (n : ℕ). end_within n at xs) size ∙ one.1 ∙ others.1,
    )

-- where no instruction is left the end is reached
pub ended_from : (at : ℕ) (xs : List ℕ) → insns_from at xs ≡ [] → at ≡ end_from at xs
ended_from at xs e =
    elim (is_first (after_insn at xs)) [
      | inl none ↦ sym (none_from at xs none).1
      | inr some ↦ absurd (let item = (first_from at xs some.0 some.1).0 in cc)
    ]
