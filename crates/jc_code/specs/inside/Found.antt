-- Faults in the order in which they are found.
use Rattle.std.specs.Prelude.{ℕ, ◌+◌, ◌==◌, Bool, true, false, cond, List, [], ◌∷◌, ◌++◌, filter}
use Rattle.std.specs.List.{flat_map}
use Rattle.jc_view.specs.Attributes.{Handler}
use Rattle.jc_code.specs.declared.code_fault.CodeFault.{CodeFault}
use Rattle.jc_code.specs.declared.code_fault.CodeRule.{CodeRule}
use Rattle.jc_code.specs.declared.code_fault.TheConstants.CodeRule.{ALL}
use Rattle.jc_code.specs.declared.insn.Insn.{Insn}
use Rattle.jc_code.specs.declared.insn.Insn.TheVariants as insns
use Rattle.jc_code.specs.CodeFaultOrder.{rule_number}
use Rattle.jc_code.specs.CodeFaults.{fault_at, handler_breaks, insn_breaks}
use Rattle.jc_code.specs.CodeRules.{Scope}

-- a fault at the place for each rule that is broken there
abbrev pub faults_at : (CodeRule → Bool) → ℕ → List CodeFault
faults_at breaks place = flat_map (λ rule. cond (breaks rule) (fault_at rule place ∷ []) []) ALL

-- the faults of an instruction
abbrev pub insn_faults : Scope → ℕ × Insn → List CodeFault
insn_faults s item = faults_at (λ rule. insn_breaks rule s item.1) item.0

-- the faults of handlers, the first of which has the number n
abbrev pub handler_faults : Scope → ℕ → List Handler → List CodeFault
handler_faults s n [] = []
handler_faults s n (h ∷ handlers) = faults_at (λ rule. handler_breaks rule s h) n ++ handler_faults s (n + 1) handlers

-- ---- in one pass, while starts are still being found

-- an instruction whose rules need the starts of instructions
abbrev pub has_targets : Insn → Bool
has_targets (insns.Branch opcode target) = true
has_targets (insns.TableSwitch switch) = true
has_targets (insns.LookupSwitch switch) = true
has_targets insn = false

-- the instructions that are checked when all starts are known
abbrev pub jumps_of : List (ℕ × Insn) → List (ℕ × Insn)
jumps_of items = filter (λ item. has_targets item.1) items

-- the faults of all other instructions
abbrev pub faults_of_others : Scope → List (ℕ × Insn) → List CodeFault
faults_of_others s items = flat_map (λ item. cond (has_targets item.1) [] (insn_faults s item)) items

-- the scope before any start is known
abbrev pub without_starts : Scope → Scope
without_starts s = record { class = s.class; max_locals = s.max_locals; size = s.size; starts = [] }

-- ---- in the order of the rules

-- the faults that break the rule, in the order in which they were found
abbrev pub against : CodeRule → List CodeFault → List CodeFault
against rule faults = filter (λ fault. rule_number fault.rule == rule_number rule) faults

abbrev pub by_rule : List CodeFault → List CodeFault
by_rule faults = flat_map (λ rule. against rule faults) ALL
