-- The order of code faults.
use Rattle.std.specs.Prelude.{ℕ}
use Rattle.std.specs.declared.cmp.Ordering.{Ordering}
use Rattle.std.specs.Ordering.{nat_cmp, ordering_then}
use Rattle.jc_code.specs.declared.code_fault.CodeFault.{CodeFault}
use Rattle.jc_code.specs.declared.code_fault.CodeRule.{CodeRule}
use Rattle.jc_code.specs.declared.code_fault.CodeRule.TheVariants as rules

abbrev pub rule_number : CodeRule → ℕ
rule_number rules.S1 = 1
rule_number rules.S2 = 2
rule_number rules.S3 = 3
rule_number rules.S4 = 4
rule_number rules.S5 = 5
rule_number rules.S6 = 6
rule_number rules.S7 = 7
rule_number rules.S8 = 8
rule_number rules.S9 = 9
rule_number rules.S10 = 10
rule_number rules.S11 = 11
rule_number rules.S12 = 12
rule_number rules.S13 = 13
rule_number rules.S14 = 14
rule_number rules.S15 = 15
rule_number rules.S16 = 16
rule_number rules.S17 = 17
rule_number rules.S18 = 18
rule_number rules.S19 = 19
rule_number rules.S20 = 20
rule_number rules.S21 = 21
rule_number rules.S22 = 22
rule_number rules.S23 = 23
rule_number rules.S24 = 24

-- by rule, and then by place
abbrev pub fault_cmp : CodeFault → CodeFault → Ordering
fault_cmp a b = ordering_then (nat_cmp (rule_number a.rule) (rule_number b.rule)) (nat_cmp a.place b.place)
