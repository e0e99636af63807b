use Rattle.std.proofs.Common.{◌≡◌}
use Rattle.std.specs.List.{list_all}
use Rattle.jc_code.specs.CodeRules.{is_target}
use Rattle.jc_code.proofs.rules.targets.all_hit.Given as goal

-- what is left decides
abbrev pub invariant-loop-target : goal.invariant-loop-target
invariant-loop-target l = list_all (is_target l.fn.scope) l.target-iterator.left ≡ list_all (is_target l.fn.scope) l.fn.targets.left
