-- The places where a rule is broken: they rise, and at each stands what breaks it.
use Rattle.std.proofs.Common.{◌≡◌, ◌∙◌, ◌⊎◌, inl, inr, ℕ, zero, suc, ◌+◌, Bool, true, false, cond, List, [], ◌∷◌, ◌++◌, length, map, filter, Some, refl, ap, sym, subst, arith, append-nil}
use Rattle.std.specs.Prelude.{IsTrue, slice_get}
use Rattle.std.proofs.lemmas.Bool.{false≢true}
use Rattle.jc_base.proofs.Membership.{Has, has_from, from_has, has-left, has-right, has-cases, has-map, has-from_map}
use Rattle.jc_view.proofs.places.RisingLists.{RisesBy, rises_lower, rises-filter, rises-map}
use Rattle.jc_view.specs.Attributes.{Handler}
use Rattle.jc_code.specs.declared.code_fault.CodeRule.{CodeRule}
use Rattle.jc_code.specs.declared.code_fault.CodeRule.TheVariants as rules
use Rattle.jc_code.specs.declared.insn.Insn.{Insn}
use Rattle.jc_code.specs.CodeRules.{Scope}
use Rattle.jc_code.specs.CodeFaults.{insn_breaks, handler_breaks, places_of, numbers_of, places}
use Rattle.jc_code.specs.CodeViolations.{AtInsn, AtHandler}

-- ---- they rise

abbrev pub Rises : List ℕ → Type 0
Rises ns = (hi : ℕ) × RisesBy (λ n. n) 0 hi ns

-- no rule is over both instructions and handlers
over_one : (rule : CodeRule) → ((s : Scope) (insn : Insn) → insn_breaks rule s insn ≡ false) ⊎ ((s : Scope) (h : Handler) → handler_breaks rule s h ≡ false)
unfolding insn_breaks handler_breaks
over_one rules.S23 = inl (λ s insn. refl)
over_one rules.S24 = inl (λ s insn. refl)
over_one rule = inr (λ s h. refl)

pub no_places : (test : Insn → Bool) (items : List (ℕ × Insn)) → ((insn : Insn) → test insn ≡ false) → places_of test items ≡ []
no_places test [] none = refl
no_places test (item ∷ items) none =
    ap (λ b. map (λ item. item.0) (cond b (item ∷ filter (λ item. test item.1) items) (filter (λ item. test item.1) items))) (none item.1)
    ∙ no_places test items none

no_numbers : {X : Type 0} (test : X → Bool) (n : ℕ) (xs : List X) → ((x : X) → test x ≡ false) → numbers_of test n xs ≡ []
no_numbers test n [] none = refl
no_numbers test n (x ∷ xs) none = ap (λ b. cond b (n ∷ []) [] ++ numbers_of test (n + 1) xs) (none x) ∙ no_numbers test (n + 1) xs none

number_rises : (b : Bool) (n hi : ℕ) (ns : List ℕ) → RisesBy (λ k. k) (n + 1) hi ns → RisesBy (λ k. k) n hi (cond b (n ∷ []) [] ++ ns)
number_rises true n hi ns h = (omega arith, h)
number_rises false n hi ns h = rises_lower (λ k. k) n (n + 1) hi ns (omega arith) h

numbers_rise : {X : Type 0} (test : X → Bool) (n : ℕ) (xs : List X) → RisesBy (λ k. k) n (n + length xs) (numbers_of test n xs)
numbers_rise test n [] = omega arith
numbers_rise test n (x ∷ xs) =
    let e : n + 1 + length xs ≡ n + length (x ∷ xs) = omega arith in
    number_rises (test x) n (n + length (x ∷ xs)) (numbers_of test (n + 1) xs) (subst (λ hi. RisesBy (λ k. k) (n + 1) hi (numbers_of test (n + 1) xs)) e (numbers_rise test (n + 1) xs))

pub places_rise : (s : Scope) (end : ℕ) (items : List (ℕ × Insn)) (handlers : List Handler) (rule : CodeRule) → RisesBy (λ item. item.0) 0 end items → Rises (places s items handlers rule)
places_rise s end items handlers rule rise =
    elim (over_one rule) [
      | inl none ↦
          let e : places s items handlers rule ≡ numbers_of (handler_breaks rule s) 0 handlers = ap (λ ns. ns ++ numbers_of (handler_breaks rule s) 0 handlers) (no_places (insn_breaks rule s) items (none s)) in
          subst Rises (sym e) (0 + length handlers, numbers_rise (handler_breaks rule s) 0 handlers)
      | inr none ↦
          let e : places s items handlers rule ≡ places_of (insn_breaks rule s) items = ap (λ ns. places_of (insn_breaks rule s) items ++ ns) (no_numbers (handler_breaks rule s) 0 handlers (none s)) ∙ append-nil (places_of (insn_breaks rule s) items) in
          subst Rises (sym e) (end, rises-map (λ item. item.0) 0 end (filter (λ item. insn_breaks rule s item.1) items) (rises-filter (λ item. item.0) (λ item. insn_breaks rule s item.1) 0 end items rise))
    ]

-- ---- what stands there

passes_first : {X : Type 0} (b : Bool) (x y : X) (xs : List X) → Has (cond b (x ∷ xs) xs) y → (IsTrue b × (x ≡ y)) ⊎ Has xs y
passes_first true x y xs (inl e) = inl (refl, e)
passes_first true x y xs (inr h) = inr h
passes_first false x y xs h = inr h

has-from_filter : {X : Type 0} (test : X → Bool) (xs : List X) (y : X) → Has (filter test xs) y → Has xs y × IsTrue (test y)
has-from_filter test [] y h = absurd h
has-from_filter test (x ∷ xs) y h =
    elim (passes_first (test x) x y (filter test xs) h) [
      | inl here ↦ (inl here.1, subst (λ z. IsTrue (test z)) here.1 here.0)
      | inr there ↦ let o = has-from_filter test xs y there in (inr o.0, o.1)
    ]

kept_first : {X : Type 0} (b : Bool) (x : X) (xs : List X) → IsTrue b → Has (cond b (x ∷ xs) xs) x
kept_first true x xs h = inl refl
kept_first false x xs h = absurd (false≢true h)

kept_later : {X : Type 0} (b : Bool) (x y : X) (xs : List X) → Has xs y → Has (cond b (x ∷ xs) xs) y
kept_later true x y xs h = inr h
kept_later false x y xs h = h

has-filter : {X : Type 0} (test : X → Bool) (xs : List X) (y : X) → Has xs y → IsTrue (test y) → Has (filter test xs) y
has-filter test [] y h is = absurd h
has-filter test (x ∷ xs) y (inl e) is = subst (λ z. Has (filter test (x ∷ xs)) z) e (kept_first (test x) x (filter test xs) (subst (λ z. IsTrue (test z)) (sym e) is))
has-filter test (x ∷ xs) y (inr h) is = kept_later (test x) x y (filter test xs) (has-filter test xs y h is)

-- an item of a list, by its number
abbrev Numbered : {X : Type 0} → (X → Bool) → List X → ℕ → Type 0
Numbered {X} test xs k = (x : X) × (slice_get xs k ≡ Some x) × IsTrue (test x)

first_number : (b : Bool) (n k : ℕ) (ns : List ℕ) → Has (cond b (n ∷ []) [] ++ ns) k → (IsTrue b × (n ≡ k)) ⊎ Has ns k
first_number true n k ns (inl e) = inl (refl, e)
first_number true n k ns (inr h) = inr h
first_number false n k ns h = inr h

has-from_numbers : {X : Type 0} (test : X → Bool) (n : ℕ) (xs : List X) (k : ℕ) → Has (numbers_of test n xs) k → (j : ℕ) × (n + j ≡ k) × Numbered test xs j
has-from_numbers test n [] k h = absurd h
has-from_numbers test n (x ∷ xs) k h =
    elim (first_number (test x) n k (numbers_of test (n + 1) xs) h) [
      | inl here ↦ let e = here.1 in (0, omega arith, (x, refl, here.0))
      | inr there ↦ let o = has-from_numbers test (n + 1) xs k there in let e = o.1 in (suc o.0, omega arith, o.2)
    ]

number_first : (b : Bool) (n : ℕ) (ns : List ℕ) → IsTrue b → Has (cond b (n ∷ []) [] ++ ns) n
number_first true n ns h = inl refl
number_first false n ns h = absurd (false≢true h)

has-numbers : {X : Type 0} (test : X → Bool) (n : ℕ) (xs : List X) (j : ℕ) → Numbered test xs j → Has (numbers_of test n xs) (n + j)
has-numbers test n [] j h = absurd (let e = h.1 in cc)
has-numbers test n (x ∷ xs) zero (y, e, is) =
    let here : n ≡ n + 0 = omega arith in
    let same : y ≡ x = cc in
    subst (λ k. Has (numbers_of test n (x ∷ xs)) k) here (number_first (test x) n (numbers_of test (n + 1) xs) (subst (λ z. IsTrue (test z)) same is))
has-numbers test n (x ∷ xs) (suc j) h =
    let on : n + 1 + j ≡ n + suc j = omega arith in
    has-right (cond (test x) (n ∷ []) []) (numbers_of test (n + 1) xs) (n + suc j) (subst (λ k. Has (numbers_of test (n + 1) xs) k) on (has-numbers test (n + 1) xs j h))

at_insn : (s : Scope) (items : List (ℕ × Insn)) (rule : CodeRule) (place : ℕ) → Has (places_of (insn_breaks rule s) items) place → AtInsn rule s items place
at_insn s items rule place h =
    let at = has-from_map (λ item. item.0) (filter (λ item. insn_breaks rule s item.1) items) place h in
    let kept = has-from_filter (λ item. insn_breaks rule s item.1) items at.0 at.1 in
    let there : Has items (place, at.0.1) = subst (λ p. Has items (p, at.0.1)) at.2 kept.0 in
    (at.0.1, from_has items (place, at.0.1) there, kept.1)

insn_at : (s : Scope) (items : List (ℕ × Insn)) (rule : CodeRule) (place : ℕ) → AtInsn rule s items place → Has (places_of (insn_breaks rule s) items) place
insn_at s items rule place (insn, there, is) =
    has-map (λ item. item.0) (filter (λ item. insn_breaks rule s item.1) items) (place, insn)
    (has-filter (λ item. insn_breaks rule s item.1) items (place, insn) (has_from items (place, insn) there) is)

pub placed_violates : (s : Scope) (items : List (ℕ × Insn)) (handlers : List Handler) (rule : CodeRule) (place : ℕ) → Has (places s items handlers rule) place → AtInsn rule s items place ⊎ AtHandler rule s handlers place
placed_violates s items handlers rule place h =
    elim (has-cases (places_of (insn_breaks rule s) items) (numbers_of (handler_breaks rule s) 0 handlers) place h) [
      | inl insn ↦ inl (at_insn s items rule place insn)
      | inr handler ↦
          let o = has-from_numbers (handler_breaks rule s) 0 handlers place handler in
          let e = o.1 in
          let same : o.0 ≡ place = omega arith in
          inr (subst (λ k. AtHandler rule s handlers k) same o.2)
    ]

pub violating_placed : (s : Scope) (items : List (ℕ × Insn)) (handlers : List Handler) (rule : CodeRule) (place : ℕ) → AtInsn rule s items place ⊎ AtHandler rule s handlers place → Has (places s items handlers rule) place
violating_placed s items handlers rule place (inl insn) =
    has-left (places_of (insn_breaks rule s) items) (numbers_of (handler_breaks rule s) 0 handlers) place (insn_at s items rule place insn)
violating_placed s items handlers rule place (inr handler) =
    let same : 0 + place ≡ place = omega arith in
    has-right (places_of (insn_breaks rule s) items) (numbers_of (handler_breaks rule s) 0 handlers) place
    (subst (λ k. Has (numbers_of (handler_breaks rule s) 0 handlers) k) same (has-numbers (handler_breaks rule s) 0 handlers place handler))
