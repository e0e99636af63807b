-- The instructions that are read in a code stand there, and no others do.
use Rattle.std.proofs.Common.{◌≡◌, ℕ, zero, suc, true, ltb, ◌+◌, ◌≤◌, List, [], ◌∷◌, ◌++◌, length, drop, Some, None, refl, sym, ap, subst, ◌∙◌, arith, inl, inr, append_assoc, length-append}
use Rattle.std.proofs.lemmas.List.{drop_at}
use Rattle.std.proofs.lemmas.Option.{same_Some}
use Rattle.jc_base.proofs.Common.{same_pair}
use Rattle.std.specs.List.{list_all}
use Rattle.jc_view.proofs.reading.BigEndian.{IsBytes}
use Rattle.jc_view.proofs.refusals.ByteTests.{are_bytes}
use Rattle.jc_code.specs.declared.insn.Insn.{Insn}
use Rattle.jc_code.specs.Insns.{Stands, StandsAs, StandFrom, IsCode}
use Rattle.jc_code.specs.InsnReading.{after_insn, insn_value, insns_within, end_within, insns_from, end_from}
use Rattle.jc_code.proofs.decoding.Taken.{insn_taken}
use Rattle.jc_code.proofs.decoding.ReadAgain.{insn_again}
use Rattle.jc_code.proofs.decoding.Shorter.{insn_shorter}
use Rattle.jc_code.proofs.decoding.Steps.{behind, none_within, first_within, nothing_in, is_first}

-- the bytes from the place on
standing_at : (code : List ℕ) (at : ℕ) (insn : Insn) (s : List ℕ) (h : StandsAs code at insn s) → drop at code ≡ s ++ h.behind
standing_at code at insn s h =
    ap (drop at) (h.joined ∙ append_assoc h.before s h.behind) ∙ drop_at h.before (s ++ h.behind) at h.place

-- what stands at a place is read there
pub record IsReadAt (code : List ℕ) (at : ℕ) (insn : Insn) (behind_it : List ℕ) : Type 0 where
  pub left : after_insn at (drop at code) ≡ Some behind_it
  pub value : insn_value at (drop at code) ≡ insn

pub stands_read : (code : List ℕ) (at : ℕ) (insn : Insn) (s : List ℕ) (h : StandsAs code at insn s) → IsReadAt code at insn h.behind
stands_read code at insn s h =
    let here = standing_at code at insn s h in
    let again = insn_again at insn s h.behind h.spelling in
    record { left = ap (after_insn at) here ∙ again.0; value = ap (insn_value at) here ∙ again.1 }

none_stands : (code : List ℕ) (at : ℕ) (xs : List ℕ) → drop at code ≡ xs → after_insn at xs ≡ None → (insn : Insn) → Stands code at insn → ⊥
none_stands code at xs here none insn h =
    let read = stands_read code at insn h.0 h.1 in
    let left = read.left in
    let cut : after_insn at (drop at code) ≡ None = ap (after_insn at) here ∙ none in
    cc

abbrev Standing : List ℕ → ℕ → List (ℕ × Insn) × ℕ → Type 0
Standing code at read = StandFrom code at read.0 read.1

nothing_stands : (code : List ℕ) (n at : ℕ) (xs : List ℕ) → drop at code ≡ xs → after_insn at xs ≡ None → StandFrom code at (insns_within n at xs) (end_within n at xs)
nothing_stands code n at xs here none =
    let e = none_within n at xs none in
    subst (Standing code at) (sym (same_pair e.0 e.1)) (refl, none_stands code at xs here none)

stand_within : (code : List ℕ) (n at : ℕ) (before xs : List ℕ) → IsBytes xs → length before ≡ at → code ≡ before ++ xs → length xs ≤ n → StandFrom code at (insns_within n at xs) (end_within n at xs)
stand_within code zero at before xs fits place joined le =
    nothing_stands code zero at xs (ap (drop at) joined ∙ drop_at before xs at place) (nothing_in at xs (omega arith))
stand_within code (suc n) at before xs fits place joined le =
    elim (is_first (after_insn at xs)) [
      | inl none ↦ nothing_stands code (suc n) at xs (ap (drop at) joined ∙ drop_at before xs at place) none
      | inr some ↦
          let rest = some.0 in
          let taken = insn_taken at xs rest fits some.1 in
          let s = taken.0 in
          let shorter = insn_shorter at xs rest some.1 in
          let size : length xs ≡ length s + length rest = ap length taken.2.parts ∙ length-append s rest in
          let next : behind at xs rest ≡ at + length s = omega arith in
          let split : code ≡ before ++ s ++ rest = joined ∙ ap (λ (t : List ℕ). before ++ t) taken.2.parts ∙ sym (append_assoc before s rest) in
          let further : length (before ++ s) ≡ at + length s = omega (arith, length-append before s) in
          let others = stand_within code n (at + length s) (before ++ s) rest taken.2.rest_fits further split (omega arith) in
          let first = first_within n at xs rest some.1 in
          let here : StandsAs code at (insn_value at xs) s = record { before = before; behind = rest; place = place; spelling = taken.1; joined = split } in
          let items = first.0 ∙ ap (λ (p : ℕ). (at, insn_value at xs) ∷ insns_within n p rest) next in
          let end = first.1 ∙ ap (λ (p : ℕ). end_within n p rest) next in
          subst (Standing code at) (sym (same_pair items end)) (refl, (s, here, others))
    ]

pub code_is_read : (code : List ℕ) → IsBytes code → IsCode code (insns_from 0 code) (end_from 0 code)
unfolding insns_from end_from
code_is_read code fits = stand_within code (length code) 0 [] code fits refl refl (omega arith)

-- ---- no two readings

-- two that stand at a place are the same, with the same bytes behind them
pub stand_apart : (code : List ℕ) (at : ℕ) (a b : Insn) (s t : List ℕ) → StandsAs code at a s → StandsAs code at b t → (a ≡ b) × (length s ≡ length t)
stand_apart code at a b s t h k =
    let one = stands_read code at a s h in
    let other = stands_read code at b t k in
    let rest : h.behind ≡ k.behind = same_Some h.behind k.behind (sym one.left ∙ other.left) in
    let here = ap length (standing_at code at a s h) ∙ length-append s h.behind in
    let there = ap length (standing_at code at b t k) ∙ length-append t k.behind in
    (sym one.value ∙ other.value, omega (arith, ap length rest))

pub insns_apart : (code : List ℕ) (at : ℕ) (a b : Insn) → Stands code at a → Stands code at b → a ≡ b
insns_apart code at a b h k = (stand_apart code at a b h.0 k.0 h.1 k.1).0

from_apart : (code : List ℕ) (at place : ℕ) (items more : List (ℕ × Insn)) (end last : ℕ) → at ≡ place → StandFrom code at items end → StandFrom code place more last → (items ≡ more) × (end ≡ last)
from_apart code at place [] [] end last e h k = (refl, sym h.0 ∙ e ∙ k.0)
from_apart code at place [] (item ∷ more) end last e h k =
    absurd (h.1 item.1 (subst (λ (p : ℕ). Stands code p item.1) (sym e ∙ h.0) (k.1.0, k.1.1)))
from_apart code at place (item ∷ items) [] end last e h k =
    absurd (k.1 item.1 (subst (λ (p : ℕ). Stands code p item.1) (e ∙ k.0) (h.1.0, h.1.1)))
from_apart code at place (item ∷ items) (other ∷ more) end last e h k =
    let s = h.1.0 in
    let t = k.1.0 in
    let moved : StandsAs code place item.1 s = subst (λ (p : ℕ). StandsAs code p item.1 s) e h.1.1 in
    let same = stand_apart code place item.1 other.1 s t moved k.1.1 in
    let next : at + length s ≡ place + length t = let size = same.1 in omega arith in
    let others = from_apart code (at + length s) (place + length t) items more end last next h.1.2 k.1.2 in
    let first : item ≡ other = same_pair (h.0 ∙ e ∙ sym k.0) same.0 in
    (ap (λ (i : ℕ × Insn). i ∷ items) first ∙ ap (λ (is : List (ℕ × Insn)). other ∷ is) others.0, others.1)

pub code_apart : (code : List ℕ) (items more : List (ℕ × Insn)) (end last : ℕ) → IsCode code items end → IsCode code more last → (items ≡ more) × (end ≡ last)
code_apart code items more end last h k = from_apart code 0 0 items more end last refl h k

-- the instructions of a code that is given
pub is_code : (code : List ℕ) (items : List (ℕ × Insn)) (end : ℕ) → list_all (λ x. ltb x 256) code ≡ true → insns_from 0 code ≡ items → end_from 0 code ≡ end → IsCode code items end
is_code code items end fits e f = subst (λ (read : List (ℕ × Insn) × ℕ). IsCode code read.0 read.1) (same_pair e f) (code_is_read code (are_bytes code fits))
