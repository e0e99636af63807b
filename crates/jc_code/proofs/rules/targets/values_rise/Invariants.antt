use Rattle.std.proofs.Common.{◌≡◌, map}
use Rattle.jc_code.specs.CodeRules.{do_rise, rise_from}
use Rattle.jc_code.proofs.rules.targets.values_rise.Given as goal

-- what is left decides, behind the last
abbrev pub invariant-loop-case : goal.invariant-loop-case
invariant-loop-case l = rise_from l.last (map (λ case. case.value) l.case-iterator.left) ≡ do_rise (map (λ case. case.value) l.fn.cases.left)
