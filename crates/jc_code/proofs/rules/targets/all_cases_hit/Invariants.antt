use Rattle.std.proofs.Common.{◌≡◌}
use Rattle.std.specs.List.{list_all}
use Rattle.jc_code.specs.CodeRules.{is_target}
use Rattle.jc_code.proofs.rules.targets.all_cases_hit.Given as goal

-- what is left decides
abbrev pub invariant-loop-case : goal.invariant-loop-case
invariant-loop-case l = list_all (λ case. is_target l.fn.scope case.target) l.case-iterator.left ≡ list_all (λ case. is_target l.fn.scope case.target) l.fn.cases.left
