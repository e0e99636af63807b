use Rattle.std.proofs.Common.{◌≡◌, ◌-◌, ◌++◌, false}
use Rattle.std.specs.Option.{option_map_or}
use Rattle.jc_view.specs.ClassFile.{constant_at}
use Rattle.jc_file.specs.declared.fault.FormatRule.{FormatRule}
use Rattle.jc_file.specs.Faults.{passing}
use Rattle.jc_file.specs.inside.Broken.{places_in}
use Rattle.jc_file.specs.inside.RuleTables.{breaks_in, constant_tests}
use Rattle.jc_file.proofs.tables.add_constants.Given as goal

abbrev pub invariant-loop-index : goal.invariant-loop-index
invariant-loop-index l = record {
  same : l.texts ≡ l.fn.texts;
  places : (rule : FormatRule) → places_in rule l.broken.items
      ≡ places_in rule l.fn.broken.items ++ passing (λ k. option_map_or (λ x. breaks_in (constant_tests l.fn.texts x) rule) (constant_at l.fn.texts (record { 0 = k })) false) 1 (l.index - 1);
}
