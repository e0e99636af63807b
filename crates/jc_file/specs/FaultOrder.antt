-- The order of the faults of a class file.
use Rattle.std.specs.Prelude.{ℕ}
use Rattle.std.specs.declared.cmp.Ordering.{Ordering}
use Rattle.std.specs.Ordering.{nat_cmp, ordering_then}
use Rattle.jc_file.specs.declared.fault.Fault.{Fault}
use Rattle.jc_file.specs.declared.fault.FormatRule.{FormatRule}
use Rattle.jc_file.specs.declared.fault.FormatRule.TheVariants as rules

abbrev pub rule_number : FormatRule → ℕ
rule_number rules.F1 = 1
rule_number rules.F2 = 2
rule_number rules.F3 = 3
rule_number rules.F4 = 4
rule_number rules.F5 = 5
rule_number rules.F6 = 6
rule_number rules.F7 = 7
rule_number rules.F8 = 8
rule_number rules.F9 = 9
rule_number rules.F10 = 10
rule_number rules.F11 = 11
rule_number rules.F12 = 12
rule_number rules.F13 = 13
rule_number rules.F14 = 14
rule_number rules.F15 = 15
rule_number rules.F16 = 16
rule_number rules.F17 = 17
rule_number rules.F18 = 18
rule_number rules.F19 = 19
rule_number rules.F20 = 20
rule_number rules.F21 = 21
rule_number rules.F22 = 22
rule_number rules.F23 = 23
rule_number rules.F24 = 24
rule_number rules.F25 = 25
rule_number rules.F26 = 26
rule_number rules.F27 = 27
rule_number rules.F28 = 28
rule_number rules.F29 = 29
rule_number rules.F30 = 30

-- faults are ordered by rule, then by place
abbrev pub fault_cmp : Fault → Fault → Ordering
fault_cmp a b = ordering_then (nat_cmp (rule_number a.rule) (rule_number b.rule)) (nat_cmp a.place b.place)
