use Rattle.std.proofs.Common.{◌≡◌, ◌+◌, ◌<◌, ◌^◌, ◌++◌, length}
use Rattle.std.specs.List.{flat_map}
use Rattle.std.specs.Iterator.Adapters.{enumerate_source, enumerate_count}
use Rattle.jc_view.specs.declared.attribute_kind.Holder.TheVariants as holders
use Rattle.jc_file.proofs.kinds.PlacedMembers.{members_of, AreOf}
use Rattle.jc_code.specs.MethodFaults.{code_faults, code_faults_from}
use Rattle.jc_code.specs.MethodUses.{uses, uses_from}
use Rattle.jc_code.specs.NamedConstants.{named_by_method}
use Rattle.jc_classes.specs.UsedConstants.{named_by_methods}
use Rattle.jc_classes.specs.inside.FirstUsers.{AreSeen}
use Rattle.jc_classes.specs.inside.Using.{are_marks}
use Rattle.jc_classes.proofs.using.FirstUsers.{AreFound}
use Rattle.jc_classes.proofs.read_facts.read_methods.Given as goal

abbrev pub invariant-loop-number : goal.invariant-loop-number
invariant-loop-number l = record {
  class : (enumerate_source l.number-iterator).class ≡ l.sizes;
  holders : AreOf holders.Method (enumerate_source l.number-iterator).left;
  few : enumerate_count l.number-iterator + length (enumerate_source l.number-iterator).left < 2 ^ 16;
  faults : l.codes.faults.items ++ code_faults_from l.sizes (enumerate_count l.number-iterator) (members_of (enumerate_source l.number-iterator).left) ≡ code_faults l.sizes;
  uses : l.codes.uses.items ++ uses_from l.sizes (enumerate_count l.number-iterator) (members_of (enumerate_source l.number-iterator).left) ≡ uses l.sizes;
  names : l.codes.names.items ++ flat_map (named_by_method l.sizes) (members_of (enumerate_source l.number-iterator).left) ≡ named_by_methods l.sizes;
  seen : AreSeen l.sizes l.codes.first;
  marks : l.codes.first.seen.items ≡ are_marks l.sizes l.codes.names.items;
  found : AreFound l.sizes (enumerate_count l.number-iterator) (members_of (enumerate_source l.number-iterator).left) l.codes.first.numbers.items;
}
