use Rattle.std.proofs.Common.{◌≡◌, ◌++◌}
use Rattle.jc_view.specs.declared.attribute_kind.Holder.TheVariants as holders
use Rattle.jc_view.specs.Attributes.{codes_of}
use Rattle.jc_code.specs.CodeFaults.{well_formed}
use Rattle.jc_code.proofs.methods.PlacedCodes.{codes_left, lent}
use Rattle.jc_code.proofs.faults.method_code.Given as goal

-- of a method, the code found and those of the attributes that are left are all
abbrev pub invariant-loop-attribute : goal.invariant-loop-attribute
invariant-loop-attribute l = record {
  class : l.attribute-iterator.class ≡ l.member.class;
  left : l.member.member.holder ≡ holders.Method → lent l.found ++ codes_left l.member.class l.attribute-iterator.left ≡ well_formed (codes_of l.member.class l.member.member.member);
}
