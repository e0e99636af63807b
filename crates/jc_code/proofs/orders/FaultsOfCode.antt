-- What follows from the list of faults of a code, and from that of a method.
use Rattle.std.proofs.Common.{◌≡◌, ◌∙◌, ℕ, ◌<◌, ◌≤◌, List, [], ◌∷◌, length, map, Option, Some, None, refl, ap, sym, subst, arith}
use Rattle.std.specs.List.{Contains, flat_map}
use Rattle.std.specs.List.Sorted.{IsStrictlySortedBy}
use Rattle.std.specs.Option.{MatchOption}
use Rattle.jc_view.specs.ClassFile.{ClassFile}
use Rattle.jc_view.specs.Attributes.{Code}
use Rattle.jc_code.specs.declared.code_fault.CodeFault.{CodeFault}
use Rattle.jc_code.specs.declared.code_fault.CodeRule.TheVariants as rules
use Rattle.jc_code.specs.declared.code_fault.TheConstants.CodeRule.{ALL}
use Rattle.jc_code.specs.declared.insn.Insn.{Insn}
use Rattle.jc_code.specs.Insns.{IsCode}
use Rattle.jc_code.specs.InsnReading.{insns_of, end_of}
use Rattle.jc_code.specs.CodeRules.{Scope}
use Rattle.jc_code.specs.CodeFaults.{AreFaultsOf, AreFaultsOfMethod, code_of_method, fault_at, faults_against, faults_of, faults_over, scope_of}
use Rattle.jc_code.specs.CodeFaultOrder.{fault_cmp}
use Rattle.jc_code.specs.CodeViolations.{BreaksCode, ViolatesCode, ViolatesIn}
use Rattle.jc_code.proofs.orders.InsnPlaces.{items_end}
use Rattle.jc_code.proofs.orders.CodeFaultOrder.{cut, whole, faults_sorted, listed_violates, violating_listed}

-- a code is instructions in one way
pub record OneWay : Type 0 where
  pub items : (code : List ℕ) (items more : List (ℕ × Insn)) (end last : ℕ) → IsCode code items end → IsCode code more last → items ≡ more
  pub end : (code : List ℕ) (items more : List (ℕ × Insn)) (end last : ℕ) → IsCode code items end → IsCode code more last → end ≡ last

module _ (c : ClassFile) (k : Code) (found : List CodeFault) (are : AreFaultsOf c k found) where
  pub found_rises : IsStrictlySortedBy fault_cmp found
  found_rises = subst (IsStrictlySortedBy fault_cmp) (sym are.listed) (faults_sorted c k are.items are.end are.is_code)

  pub found_breaks : (fault : CodeFault) → Contains found fault → BreaksCode fault.rule c k fault.place
  found_breaks fault h =
      (are.items, are.end, are.is_code, listed_violates c k are.items are.end fault are.is_code (subst (λ fs. Contains fs fault) are.listed h))

  pub breaking_found : OneWay → (fault : CodeFault) → BreaksCode fault.rule c k fault.place → Contains found fault
  breaking_found one fault (items, end, is_code, violates) =
      let same_items : items ≡ are.items = one.items k.code items are.items end are.end is_code are.is_code in
      let same_end : end ≡ are.end = one.end k.code items are.items end are.end is_code are.is_code in
      let here : ViolatesIn fault.rule c k are.items end fault.place = subst (λ is. ViolatesIn fault.rule c k is end fault.place) same_items violates in
      let there : ViolatesIn fault.rule c k are.items are.end fault.place = subst (λ n. ViolatesIn fault.rule c k are.items n fault.place) same_end here in
      subst (λ fs. Contains fs fault) (sym are.listed) (violating_listed c k are.items are.end fault there)

  -- they are those by the instructions that are read
  pub found_computed : OneWay → IsCode k.code (insns_of k.code) (end_of k.code) → found ≡ faults_of c k
  unfolding faults_of
  found_computed one read =
      are.listed
      ∙ ap (λ items. faults_over c k items are.end) (one.items k.code are.items (insns_of k.code) are.end (end_of k.code) are.is_code read)
      ∙ ap (λ end. faults_over c k (insns_of k.code) end) (one.end k.code are.items (insns_of k.code) are.end (end_of k.code) are.is_code read)

-- ---- of a method

none_contained : (fault : CodeFault) → Contains [] fault → ⊥
none_contained fault h = let lt = h.1 in omega arith

none_sorted : IsStrictlySortedBy fault_cmp []
unfolding IsStrictlySortedBy
none_sorted = tt

module _ (c : ClassFile) (n : ℕ) (found : List CodeFault) where
  rises_at : (o : Option Code) → MatchOption o (found ≡ []) (λ k. AreFaultsOf c k found) → IsStrictlySortedBy fault_cmp found
  rises_at None none = subst (IsStrictlySortedBy fault_cmp) (sym none) none_sorted
  rises_at (Some k) are = found_rises c k found are

  violates_at : (o : Option Code) → MatchOption o (found ≡ []) (λ k. AreFaultsOf c k found) → (fault : CodeFault) → Contains found fault → (k : Code) × (o ≡ Some k) × BreaksCode fault.rule c k fault.place
  violates_at None none fault h = absurd (none_contained fault (subst (λ fs. Contains fs fault) none h))
  violates_at (Some k) are fault h = (k, refl, found_breaks c k found are fault h)

  found_at : OneWay → (o : Option Code) → MatchOption o (found ≡ []) (λ k. AreFaultsOf c k found) → (fault : CodeFault) → (k : Code) × (o ≡ Some k) × BreaksCode fault.rule c k fault.place → Contains found fault
  found_at one None none fault h = absurd (let e = h.1 in cc)
  found_at one (Some k) are fault h =
      let same : h.0 ≡ k = let e = h.1 in cc in
      breaking_found c k found are one fault (subst (λ j. BreaksCode fault.rule c j fault.place) same h.2)

  pub method_rises : AreFaultsOfMethod c n found → IsStrictlySortedBy fault_cmp found
  method_rises are = rises_at (code_of_method c n) are

  pub method_violates : AreFaultsOfMethod c n found → (fault : CodeFault) → Contains found fault → ViolatesCode fault.rule c n fault.place
  method_violates are = violates_at (code_of_method c n) are

  pub method_found : OneWay → AreFaultsOfMethod c n found → (fault : CodeFault) → ViolatesCode fault.rule c n fault.place → Contains found fault
  method_found one are = found_at one (code_of_method c n) are

-- ---- the list, by how the instructions end

same_scope : {c d : ClassFile} {m n size most : ℕ} {xs ys : List ℕ} → c ≡ d → m ≡ n → size ≡ most → xs ≡ ys
    → ◌≡◌ {A = Scope} (record { class = c; max_locals = m; size = size; starts = xs }) (record { class = d; max_locals = n; size = most; starts = ys })
same_scope e f g h i = record { class = e i; max_locals = f i; size = g i; starts = h i }

module _ (c : ClassFile) (k : Code) (items : List (ℕ × Insn)) (end : ℕ) (is_code : IsCode k.code items end) where
  pub listed_cut : (found : List CodeFault) → end < length k.code → found ≡ fault_at rules.S1 end ∷ [] → AreFaultsOf c k found
  listed_cut found lt e = record {
    items = items;
    end = end;
    is_code = is_code;
    listed = e ∙ sym (cut c k items end (λ same. omega (arith, lt, same)));
  }

  ends : length k.code ≤ end → end ≡ length k.code
  ends le = let most = items_end k.code 0 end items (omega arith) is_code in omega (arith, le, most)

  scope_is : (s : Scope) → s.class ≡ c → s.max_locals ≡ k.max_locals → s.size ≡ length k.code → s.starts ≡ map (λ item. item.0) items → s ≡ scope_of c k items
  scope_is s class max_locals size same = same_scope class max_locals size same

  pub listed_whole : (s : Scope) (found : List CodeFault) → length k.code ≤ end → s.class ≡ c → s.max_locals ≡ k.max_locals → s.size ≡ length k.code → s.starts ≡ map (λ item. item.0) items
      → found ≡ flat_map (faults_against s items k.handlers) ALL → AreFaultsOf c k found
  listed_whole s found le class max_locals size same e = record {
    items = items;
    end = end;
    is_code = is_code;
    listed = e ∙ ap (λ t. flat_map (faults_against t items k.handlers) ALL) (scope_is s class max_locals size same) ∙ sym (whole c k items end (ends le));
  }
