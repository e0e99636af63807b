-- The faults of a method's code: the places where each static constraint is broken.
use Rattle.std.specs.Prelude.{◌≡◌, ℕ, ◌+◌, ◌==◌, Bool, false, List, [], ◌∷◌, ◌++◌, length}
use Rattle.std.specs.Prelude.{map, filter, cond, Option, Some, None, slice_get, option_and_then, if◌then◌else◌}
use Rattle.std.specs.List.{flat_map}
use Rattle.std.specs.Option.{MatchOption, option_map_or}
use Rattle.jc_code.specs.declared.code_fault.CodeFault.{CodeFault}
use Rattle.jc_code.specs.declared.code_fault.CodeRule.{CodeRule}
use Rattle.jc_code.specs.declared.code_fault.CodeRule.TheVariants as rules
use Rattle.jc_code.specs.declared.code_fault.TheConstants.CodeRule.{ALL}
use Rattle.jc_code.specs.declared.insn.Insn.{Insn}
use Rattle.jc_view.specs.ClassFile.{Attribute, ClassFile, Member}
use Rattle.jc_view.specs.Attributes.{Code, Handler, codes_of}
use Rattle.jc_view.specs.AttributeReading.{code_in}
use Rattle.jc_code.specs.Insns.{IsCode}
use Rattle.jc_code.specs.InsnReading.{end_of, insns_of}
use Rattle.jc_code.specs.CodeRules.{Scope, breaks_s2, breaks_s3, breaks_s4, breaks_s5, breaks_s6, breaks_s7, breaks_s8, breaks_s9}
use Rattle.jc_code.specs.CodeRules.{breaks_s10, breaks_s11, breaks_s12, breaks_s13, breaks_s14, breaks_s15, breaks_s16, breaks_s17}
use Rattle.jc_code.specs.CodeRules.{breaks_s18, breaks_s19, breaks_s20, breaks_s21, breaks_s22, breaks_s23, breaks_s24}

-- ---- the code of a method

-- the well-formed Code attributes of a method
abbrev pub well_formed : List Attribute → List Code
well_formed attributes = flat_map (λ a. option_map_or (λ k. k ∷ []) (code_in a.bytes) []) attributes

-- the item of a list of one item
abbrev pub only : {X : Type 0} → List X → Option X
only [] = None
only (x ∷ []) = Some x
only (x ∷ y ∷ xs) = None

-- the well-formed Code of a method, if it has exactly one
abbrev pub code_of_member : ClassFile → Member → Option Code
code_of_member c m = only (well_formed (codes_of c m))

-- the code of a method, by the method's number
abbrev pub code_of_method : ClassFile → ℕ → Option Code
code_of_method c n = option_and_then (code_of_member c) (slice_get c.methods n)

-- ---- where a rule is broken

-- whether an instruction breaks a rule
unfoldable pub insn_breaks : CodeRule → Scope → Insn → Bool
insn_breaks rules.S2 s insn = breaks_s2 s insn
insn_breaks rules.S3 s insn = breaks_s3 s insn
insn_breaks rules.S4 s insn = breaks_s4 s insn
insn_breaks rules.S5 s insn = breaks_s5 s insn
insn_breaks rules.S6 s insn = breaks_s6 s insn
insn_breaks rules.S7 s insn = breaks_s7 s insn
insn_breaks rules.S8 s insn = breaks_s8 s insn
insn_breaks rules.S9 s insn = breaks_s9 s insn
insn_breaks rules.S10 s insn = breaks_s10 s insn
insn_breaks rules.S11 s insn = breaks_s11 s insn
insn_breaks rules.S12 s insn = breaks_s12 s insn
insn_breaks rules.S13 s insn = breaks_s13 s insn
insn_breaks rules.S14 s insn = breaks_s14 s insn
insn_breaks rules.S15 s insn = breaks_s15 s insn
insn_breaks rules.S16 s insn = breaks_s16 s insn
insn_breaks rules.S17 s insn = breaks_s17 s insn
insn_breaks rules.S18 s insn = breaks_s18 s insn
insn_breaks rules.S19 s insn = breaks_s19 s insn
insn_breaks rules.S20 s insn = breaks_s20 s insn
insn_breaks rules.S21 s insn = breaks_s21 s insn
insn_breaks rules.S22 s insn = breaks_s22 s insn
insn_breaks rule s insn = false

-- whether an exception handler breaks a rule
unfoldable pub handler_breaks : CodeRule → Scope → Handler → Bool
handler_breaks rules.S23 s h = breaks_s23 s h
handler_breaks rules.S24 s h = breaks_s24 s h
handler_breaks rule s h = false

-- the places of the instructions that pass a test
abbrev pub places_of : (Insn → Bool) → List (ℕ × Insn) → List ℕ
places_of test items = map (λ item. item.0) (filter (λ item. test item.1) items)

-- the numbers of the items that pass a test; the first item has the number n
abbrev pub numbers_of : {X : Type 0} → (X → Bool) → ℕ → List X → List ℕ
numbers_of test n [] = []
numbers_of test n (x ∷ xs) = cond (test x) (n ∷ []) [] ++ numbers_of test (n + 1) xs

abbrev pub fault_at : CodeRule → ℕ → CodeFault
fault_at rule place = record { rule = rule; place = place }

-- the places of instructions that break a rule, then the numbers of handlers that break it
abbrev pub places : Scope → List (ℕ × Insn) → List Handler → CodeRule → List ℕ
places s items handlers rule = places_of (insn_breaks rule s) items ++ numbers_of (handler_breaks rule s) 0 handlers

-- a fault for each place where the rule is broken
abbrev pub faults_against : Scope → List (ℕ × Insn) → List Handler → CodeRule → List CodeFault
faults_against s items handlers rule = map (fault_at rule) (places s items handlers rule)

-- the scope of the rules, with the starts of instructions
abbrev pub scope_with : ClassFile → Code → List ℕ → Scope
scope_with c k starts = record { class = c; max_locals = k.max_locals; size = length k.code; starts = starts }

abbrev pub scope_of : ClassFile → Code → List (ℕ × Insn) → Scope
scope_of c k items = scope_with c k (map (λ item. item.0) items)

-- the faults of a code, from its instructions and their end: in the order of the rules, and then by place.
-- If the instructions end before the code does, the only fault is S1
unfoldable pub faults_over : ClassFile → Code → List (ℕ × Insn) → ℕ → List CodeFault
faults_over c k items end =
    if end == length k.code
    then flat_map (faults_against (scope_of c k items) items k.handlers) ALL
    else fault_at rules.S1 end ∷ []

-- the faults of a code, from the instructions that are decoded from it
unfoldable pub faults_of : ClassFile → Code → List CodeFault
faults_of c k = faults_over c k (insns_of k.code) (end_of k.code)

-- a list has exactly the faults of a code
pub record AreFaultsOf (c : ClassFile) (k : Code) (found : List CodeFault) : Type 0 where
  pub items : List (ℕ × Insn)
  pub end : ℕ
  pub is_code : IsCode k.code items end
  pub listed : found ≡ faults_over c k items end

-- a list has exactly the faults of a code that may be missing; without a code there is no fault
abbrev pub AreFaultsIfAny : ClassFile → Option Code → List CodeFault → Type 0
AreFaultsIfAny c code found = MatchOption code (found ≡ []) (λ k. AreFaultsOf c k found)

-- a list has exactly the faults of a method, by the method's number
abbrev pub AreFaultsOfMethod : ClassFile → ℕ → List CodeFault → Type 0
AreFaultsOfMethod c n found = AreFaultsIfAny c (code_of_method c n) found
