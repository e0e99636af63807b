use Rattle.std.proofs.Common.{◌≡◌, ◌++◌}
use Rattle.std.specs.Iterator.Adapters.{enumerate_count, enumerate_source}
use Rattle.jc_view.specs.declared.attribute_kind.Holder.TheVariants as holders
use Rattle.jc_view.specs.Places.{methods_in}
use Rattle.jc_file.specs.declared.fault.FormatRule.{FormatRule}
use Rattle.jc_file.specs.inside.RuleTables.{numbered}
use Rattle.jc_file.proofs.kinds.PlacedMembers.{AreOf, members_of}
use Rattle.jc_file.specs.inside.AttributePlaces.{places_of_members}
use Rattle.jc_file.specs.inside.Broken.{places_in}
use Rattle.jc_file.specs.inside.RuleTables.{breaks_in, method_places, method_tests}
use Rattle.jc_file.proofs.tables.add_methods.Given as goal

-- the places so far, and those of the methods that are left, are all
abbrev pub invariant-loop-place : goal.invariant-loop-place
invariant-loop-place l = record {
  same : l.texts ≡ l.fn.texts;
  class : (enumerate_source l.place-iterator).class ≡ l.fn.texts;
  holders : AreOf holders.Method (enumerate_source l.place-iterator).left;
  places : (rule : FormatRule) → places_in rule l.broken.items ++ numbered (λ m. breaks_in (method_tests l.fn.texts m) rule) (enumerate_count l.place-iterator) (members_of (enumerate_source l.place-iterator).left)
      ≡ places_in rule l.fn.broken.items ++ method_places l.fn.texts rule;
  attributes : (rule : FormatRule) → places_in rule l.attributes.items ++ places_of_members (record { class = l.fn.texts; left = (enumerate_source l.place-iterator).left }) rule
      ≡ places_in rule l.fn.attributes.items ++ places_of_members (record { class = l.fn.texts; left = methods_in l.fn.texts }) rule;
}
