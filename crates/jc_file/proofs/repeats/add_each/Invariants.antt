use Rattle.std.proofs.Common.{◌≡◌, ◌++◌, filter, map, take}
use Rattle.jc_file.specs.declared.fault.FormatRule.{FormatRule}
use Rattle.jc_file.specs.inside.Broken.{places_in}
use Rattle.jc_file.specs.inside.RuleSets.{same_rule}
use Rattle.jc_file.proofs.repeats.add_each.Given as goal

abbrev pub invariant-loop-fault : goal.invariant-loop-fault
invariant-loop-fault l =
    (rule : FormatRule) → places_in rule l.broken.items
    ≡ places_in rule l.fn.broken.items ++ map (λ fault. fault.place) (filter (λ fault. same_rule fault.rule rule) (take l.fault-index l.faults))
