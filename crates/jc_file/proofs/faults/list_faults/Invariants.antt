use Rattle.std.proofs.Common.{◌≡◌, ◌++◌, drop, map}
use Rattle.std.specs.List.{flat_map}
use Rattle.jc_file.specs.declared.fault.TheConstants.FormatRule.{ALL}
use Rattle.jc_file.specs.Faults.{fault_at}
use Rattle.jc_file.specs.inside.Broken.{places_in}
use Rattle.jc_file.proofs.faults.list_faults.Given as goal

-- the faults so far, and those against the rules that are left, are all
abbrev pub invariant-loop-rule : goal.invariant-loop-rule
invariant-loop-rule l =
    l.faults.items ++ flat_map (λ rule. map (fault_at rule) (places_in rule l.broken)) (drop l.rule-index l.rule-items)
    ≡ flat_map (λ rule. map (fault_at rule) (places_in rule l.broken)) ALL
