-- The faults of a code stand in order, and are those at the places of each rule.
use Rattle.std.proofs.Common.{◌≡◌, ◌∙◌, inl, inr, ℕ, ◌+◌, ◌-◌, ◌<◌, List, [], ◌∷◌, ◌++◌, length, map, eqb, refl, ap, sym, subst, arith, lit<}
use Rattle.std.specs.List.{Contains, AllByRecursion, flat_map}
use Rattle.std.specs.List.Sorted.{IsStrictlySortedBy}
use Rattle.std.specs.declared.cmp.Ordering.TheVariants.{Less, Equal}
use Rattle.std.specs.Ordering.{nat_cmp, ordering_then}
use Rattle.std.specs.Cmp.{nat_cmp_is}
use Rattle.std.proofs.lemmas.Bool.{cases_eq, eq-eqb, ne_eqb, cond-true, cond-false}
use Rattle.jc_base.proofs.Membership.{Has, has_from, from_has, has-map, has-from_map, has-flat_map, has-from_flat_map}
use Rattle.jc_view.proofs.places.RisingLists.{RisesBy}
use Rattle.jc_view.specs.ClassFile.{ClassFile}
use Rattle.jc_view.specs.Attributes.{Code, Handler}
use Rattle.jc_code.specs.declared.code_fault.CodeFault.{CodeFault}
use Rattle.jc_code.specs.declared.code_fault.CodeRule.{CodeRule}
use Rattle.jc_code.specs.declared.code_fault.CodeRule.TheVariants as rules
use Rattle.jc_code.specs.declared.code_fault.TheConstants.CodeRule.{ALL}
use Rattle.jc_code.specs.declared.insn.Insn.{Insn}
use Rattle.jc_code.specs.Insns.{IsCode}
use Rattle.jc_code.specs.CodeRules.{Scope}
use Rattle.jc_code.specs.CodeFaults.{fault_at, places, faults_against, faults_over, scope_of}
use Rattle.jc_code.specs.CodeFaultOrder.{rule_number, fault_cmp}
use Rattle.jc_code.specs.CodeViolations.{ViolatesIn}
use Rattle.jc_code.proofs.orders.InsnPlaces.{items_rise, items_end}
use Rattle.jc_code.proofs.orders.RulePlaces.{places_rise, placed_violates, violating_placed}

-- ---- in order

less : (a b : ℕ) → a < b → nat_cmp a b ≡ Less
less a b h = sym (nat_cmp_is a b Less h)

same_rule : (rule : CodeRule) (m n : ℕ) → m < n → fault_cmp (fault_at rule m) (fault_at rule n) ≡ Less
same_rule rule m n h = ap (λ o. ordering_then o (nat_cmp m n)) (sym (nat_cmp_is (rule_number rule) (rule_number rule) Equal refl)) ∙ less m n h

later_rule : (x y : CodeFault) → rule_number x.rule < rule_number y.rule → fault_cmp x y ≡ Less
later_rule x y h = ap (λ o. ordering_then o (nat_cmp x.place y.place)) (less (rule_number x.rule) (rule_number y.rule) h)

-- each of these comes behind the fault
abbrev Before : CodeFault → List CodeFault → Type 0
Before x ys = AllByRecursion (λ y. fault_cmp x y ≡ Less) ys

before-append : (x : CodeFault) (ys zs : List CodeFault) → Before x ys → Before x zs → Before x (ys ++ zs)
before-append x [] zs h k = k
before-append x (y ∷ ys) zs h k = (h.0, before-append x ys zs h.1 k)

before_places : (rule : CodeRule) (m lo hi : ℕ) (ns : List ℕ) → m < lo → RisesBy (λ n. n) lo hi ns → Before (fault_at rule m) (map (fault_at rule) ns)
before_places rule m lo hi [] lt h = tt
before_places rule m lo hi (n ∷ ns) lt h = (same_rule rule m n (omega (arith, h.0)), before_places rule m (n + 1) hi ns (omega (arith, h.0)) h.1)

sorted_places : (rule : CodeRule) (lo hi : ℕ) (ns : List ℕ) → RisesBy (λ n. n) lo hi ns → IsStrictlySortedBy fault_cmp (map (fault_at rule) ns)
unfolding IsStrictlySortedBy
sorted_places rule lo hi [] h = tt
sorted_places rule lo hi (n ∷ ns) h = (before_places rule n (n + 1) hi ns (omega arith) h.1, sorted_places rule (n + 1) hi ns h.1)

before_rule : (x : CodeFault) (rule : CodeRule) (ns : List ℕ) → rule_number x.rule < rule_number rule → Before x (map (fault_at rule) ns)
before_rule x rule [] lt = tt
before_rule x rule (n ∷ ns) lt = (later_rule x (fault_at rule n) lt, before_rule x rule ns lt)

sorted-append : (rule : CodeRule) (ns : List ℕ) (ys : List CodeFault) → ((n : ℕ) → Before (fault_at rule n) ys) → IsStrictlySortedBy fault_cmp (map (fault_at rule) ns) → IsStrictlySortedBy fault_cmp ys → IsStrictlySortedBy fault_cmp (map (fault_at rule) ns ++ ys)
unfolding IsStrictlySortedBy
sorted-append rule [] ys behind h k = k
sorted-append rule (n ∷ ns) ys behind h k =
    (before-append (fault_at rule n) (map (fault_at rule) ns) ys h.0 (behind n), sorted-append rule ns ys behind h.1 k)

module _ (s : Scope) (items : List (ℕ × Insn)) (handlers : List Handler) where
  before_rules : (x : CodeFault) (lo hi : ℕ) (rs : List CodeRule) → rule_number x.rule < lo → RisesBy rule_number lo hi rs → Before x (flat_map (faults_against s items handlers) rs)
  before_rules x lo hi [] lt h = tt
  before_rules x lo hi (r ∷ rs) lt h =
      before-append x (faults_against s items handlers r) (flat_map (faults_against s items handlers) rs)
      (before_rule x r (places s items handlers r) (omega (arith, h.0)))
      (before_rules x (rule_number r + 1) hi rs (omega (arith, h.0)) h.1)

  sorted_rules : (end : ℕ) → RisesBy (λ item. item.0) 0 end items → (lo hi : ℕ) (rs : List CodeRule) → RisesBy rule_number lo hi rs → IsStrictlySortedBy fault_cmp (flat_map (faults_against s items handlers) rs)
  unfolding IsStrictlySortedBy
  sorted_rules end up lo hi [] h = tt
  sorted_rules end up lo hi (r ∷ rs) h =
      let rise = places_rise s end items handlers r up in
      sorted-append r (places s items handlers r) (flat_map (faults_against s items handlers) rs)
      (λ n. before_rules (fault_at r n) (rule_number r + 1) hi rs (omega arith) h.1)
      (sorted_places r 0 rise.0 (places s items handlers r) rise.1)
      (sorted_rules end up (rule_number r + 1) hi rs h.1)

rules_rise : RisesBy rule_number 1 (length ALL + 1) ALL
rules_rise = grind arith

sorted_one : (fault : CodeFault) → IsStrictlySortedBy fault_cmp (fault ∷ [])
unfolding IsStrictlySortedBy
sorted_one fault = (tt, tt)

-- where the instructions end with the code, and where they end before
pub whole : (c : ClassFile) (k : Code) (items : List (ℕ × Insn)) (end : ℕ) → end ≡ length k.code → faults_over c k items end ≡ flat_map (faults_against (scope_of c k items) items k.handlers) ALL
unfolding faults_over
whole c k items end e = cond-true (eqb end (length k.code)) _ _ (eq-eqb end (length k.code) e)

pub cut : (c : ClassFile) (k : Code) (items : List (ℕ × Insn)) (end : ℕ) → (end ≡ length k.code → ⊥) → faults_over c k items end ≡ fault_at rules.S1 end ∷ []
unfolding faults_over
cut c k items end apart = cond-false (eqb end (length k.code)) _ _ (ne_eqb end (length k.code) apart)

pub faults_sorted : (c : ClassFile) (k : Code) (items : List (ℕ × Insn)) (end : ℕ) → IsCode k.code items end → IsStrictlySortedBy fault_cmp (faults_over c k items end)
faults_sorted c k items end is_code =
    elim (cases_eq end (length k.code)) [
      | inl e ↦ subst (IsStrictlySortedBy fault_cmp) (sym (whole c k items end e))
          (sorted_rules (scope_of c k items) items k.handlers end (items_rise k.code 0 end items is_code) 1 (length ALL + 1) ALL rules_rise)
      | inr apart ↦ subst (IsStrictlySortedBy fault_cmp) (sym (cut c k items end apart)) (sorted_one (fault_at rules.S1 end))
    ]

-- ---- those at the places of each rule

is_rule : (rule : CodeRule) → Contains ALL rule
is_rule rules.S1 = (0, lit< tt, refl)
is_rule rule = (rule_number rule - 1, lit< tt, refl)

module _ (s : Scope) (items : List (ℕ × Insn)) (handlers : List Handler) where
  fault_placed : (fault : CodeFault) → Has (flat_map (faults_against s items handlers) ALL) fault → Has (places s items handlers fault.rule) fault.place
  fault_placed fault h =
      let against = has-from_flat_map (faults_against s items handlers) ALL fault h in
      let at = has-from_map (fault_at against.0) (places s items handlers against.0) fault against.2 in
      let same_rule : against.0 ≡ fault.rule = ap (λ f. f.rule) at.2 in
      let same_place : at.0 ≡ fault.place = ap (λ f. f.place) at.2 in
      let placed : Has (places s items handlers fault.rule) at.0 = subst (λ (r : CodeRule). Has (places s items handlers r) at.0) same_rule at.1 in
      subst (λ (n : ℕ). Has (places s items handlers fault.rule) n) same_place placed

  placed_fault : (fault : CodeFault) → Has (places s items handlers fault.rule) fault.place → Has (flat_map (faults_against s items handlers) ALL) fault
  placed_fault fault h =
      let at = has-map (fault_at fault.rule) (places s items handlers fault.rule) fault.place h in
      has-flat_map (faults_against s items handlers) ALL fault.rule fault (has_from ALL fault.rule (is_rule fault.rule)) at

module _ (c : ClassFile) (k : Code) (items : List (ℕ × Insn)) (end : ℕ) (fault : CodeFault) where
  cut_violates : end < length k.code → Has (fault_at rules.S1 end ∷ []) fault → ViolatesIn fault.rule c k items end fault.place
  cut_violates lt (inl e) = inl (sym (ap (λ f. f.rule) e), lt, sym (ap (λ f. f.place) e))
  cut_violates lt (inr h) = absurd h

  cut_listed : (end ≡ length k.code → ⊥) → ViolatesIn fault.rule c k items end fault.place → Has (fault_at rules.S1 end ∷ []) fault
  cut_listed apart (inl h) = inl (let r : fault.rule ≡ rules.S1 = h.0 in let p : fault.place ≡ end = h.2 in ap (λ q. record { rule = q; place = end }) (sym r) ∙ ap (λ q. record { rule = fault.rule; place = q }) (sym p))
  cut_listed apart (inr h) = absurd (apart h.0)

  whole_listed : end ≡ length k.code → ViolatesIn fault.rule c k items end fault.place → Has (flat_map (faults_against (scope_of c k items) items k.handlers) ALL) fault
  whole_listed e (inl h) = absurd (let lt = h.1 in omega arith)
  whole_listed e (inr h) = placed_fault (scope_of c k items) items k.handlers fault (violating_placed (scope_of c k items) items k.handlers fault.rule fault.place h.1)

  pub listed_violates : IsCode k.code items end → Contains (faults_over c k items end) fault → ViolatesIn fault.rule c k items end fault.place
  listed_violates is_code h =
      elim (cases_eq end (length k.code)) [
        | inl e ↦
            let there = has_from (flat_map (faults_against (scope_of c k items) items k.handlers) ALL) fault (subst (λ fs. Contains fs fault) (whole c k items end e) h) in
            inr (e, placed_violates (scope_of c k items) items k.handlers fault.rule fault.place (fault_placed (scope_of c k items) items k.handlers fault there))
        | inr apart ↦
            let le = items_end k.code 0 end items (omega arith) is_code in
            let lt : end < length k.code = omega arith in
            cut_violates lt (has_from (fault_at rules.S1 end ∷ []) fault (subst (λ fs. Contains fs fault) (cut c k items end apart) h))
      ]

  pub violating_listed : ViolatesIn fault.rule c k items end fault.place → Contains (faults_over c k items end) fault
  violating_listed h =
      elim (cases_eq end (length k.code)) [
        | inl e ↦ subst (λ fs. Contains fs fault) (sym (whole c k items end e)) (from_has (flat_map (faults_against (scope_of c k items) items k.handlers) ALL) fault (whole_listed e h))
        | inr apart ↦ subst (λ fs. Contains fs fault) (sym (cut c k items end apart)) (from_has (fault_at rules.S1 end ∷ []) fault (cut_listed apart h))
      ]
