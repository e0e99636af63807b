use Rattle.std.proofs.Common.{◌≡◌, ◌++◌}
use Rattle.jc_file.specs.declared.fault.FormatRule.{FormatRule}
use Rattle.jc_file.specs.inside.RuleTables.{numbered}
use Rattle.jc_file.specs.inside.Broken.{places_in}
use Rattle.jc_file.specs.inside.RuleTables.{breaks_in, interface_places, interface_tests}
use Rattle.jc_file.proofs.tables.add_interfaces.Given as goal

-- the places so far, and those of the interfaces that are left, are all
abbrev pub invariant-loop-place : goal.invariant-loop-place
invariant-loop-place l = record {
  same : l.texts ≡ l.fn.texts;
  places : (rule : FormatRule) → places_in rule l.broken.items ++ numbered (λ index. breaks_in (interface_tests l.fn.texts index) rule) l.place-iterator.count l.place-iterator.iter
      ≡ places_in rule l.fn.broken.items ++ interface_places l.fn.texts rule;
}
