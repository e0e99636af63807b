use Rattle.std.proofs.Common.{◌≡◌, ◌++◌, drop}
use Rattle.std.specs.List.{flat_map}
use Rattle.jc_code.specs.declared.code_fault.TheConstants.CodeRule.{ALL}
use Rattle.jc_code.specs.inside.Found.{against}
use Rattle.jc_code.proofs.found.by_rule.Given as goal

-- the faults so far, and those against the rules that are left, are all
abbrev pub invariant-loop-rule : goal.invariant-loop-rule
invariant-loop-rule l = l.faults.items ++ flat_map (λ rule. against rule l.found) (drop l.rule-index l.rule-items) ≡ flat_map (λ rule. against rule l.found) ALL
