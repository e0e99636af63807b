-- What it means that a method's code breaks a static constraint at a place (JVMS 4.7.3, 4.9.1).
use Rattle.std.specs.Prelude.{◌≡◌, ◌↔◌, ◌⊎◌, ℕ, ◌<◌, List, Contains, IsTrue, length, Some, slice_get}
use Rattle.std.specs.List.Sorted.{IsStrictlySortedBy}
use Rattle.jc_code.specs.declared.code_fault.CodeFault.{CodeFault}
use Rattle.jc_code.specs.declared.code_fault.CodeRule.{CodeRule}
use Rattle.jc_code.specs.declared.code_fault.CodeRule.TheVariants as rules
use Rattle.jc_code.specs.declared.insn.Insn.{Insn}
use Rattle.jc_view.specs.ClassFile.{ClassFile}
use Rattle.jc_view.specs.Attributes.{Code, Handler}
use Rattle.jc_code.specs.Insns.{IsCode}
use Rattle.jc_code.specs.CodeRules.{Scope}
use Rattle.jc_code.specs.CodeFaultOrder.{fault_cmp}
use Rattle.jc_code.specs.CodeFaults.{code_of_method, faults_over, handler_breaks, insn_breaks, scope_of}

-- the instruction at the place breaks the rule
abbrev pub AtInsn : CodeRule → Scope → List (ℕ × Insn) → ℕ → Type 0
AtInsn rule s items place = (insn : Insn) × Contains items (place, insn) × IsTrue (insn_breaks rule s insn)

-- the handler of this number breaks the rule
abbrev pub AtHandler : CodeRule → Scope → List Handler → ℕ → Type 0
AtHandler rule s handlers n = (h : Handler) × (slice_get handlers n ≡ Some h) × IsTrue (handler_breaks rule s h)

-- the instructions end at the place, before the code does; then no other rule is checked
abbrev pub IsCut : CodeRule → Code → ℕ → ℕ → Type 0
IsCut rule k end place = (rule ≡ rules.S1) × (end < length k.code) × (place ≡ end)

-- a rule is broken at a place of the code. Rules other than S1 are broken only if the instructions fill the code
abbrev pub ViolatesIn : CodeRule → ClassFile → Code → List (ℕ × Insn) → ℕ → ℕ → Type 0
ViolatesIn rule c k items end place =
    IsCut rule k end place
    ⊎ (end ≡ length k.code) × (AtInsn rule (scope_of c k items) items place ⊎ AtHandler rule (scope_of c k items) k.handlers place)

-- the faults are sorted by rule and then by place, without duplicates
abbrev pub AreInOrder : ClassFile → Code → List (ℕ × Insn) → ℕ → Type 0
AreInOrder c k items end = IsStrictlySortedBy fault_cmp (faults_over c k items end)

-- the faults are exactly the places where a rule is broken
abbrev pub AreExact : ClassFile → Code → List (ℕ × Insn) → ℕ → Type 0
AreExact c k items end =
    (fault : CodeFault) → Contains (faults_over c k items end) fault ↔ ViolatesIn fault.rule c k items end fault.place

-- a code breaks a rule at a place
abbrev pub BreaksCode : CodeRule → ClassFile → Code → ℕ → Type 0
BreaksCode rule c k place = (items : List (ℕ × Insn)) × (end : ℕ) × IsCode k.code items end × ViolatesIn rule c k items end place

-- the code of a method of this number breaks a rule at a place
abbrev pub ViolatesCode : CodeRule → ClassFile → ℕ → ℕ → Type 0
ViolatesCode rule c n place = (k : Code) × (code_of_method c n ≡ Some k) × BreaksCode rule c k place
