use Rattle.std.proofs.Common.{◌≡◌, ◌||◌}
use Rattle.std.specs.List.{flat_map}
use Rattle.std.specs.Iterator.Adapters.{enumerate_source, enumerate_count}
use Rattle.jc_view.specs.declared.attribute_kind.Holder.TheVariants as holders
use Rattle.jc_file.proofs.kinds.PlacedMembers.{members_of, AreOf}
use Rattle.jc_text.proofs.Sending.{HasSent}
use Rattle.jc_list.specs.FaultLines.{code_fault_line}
use Rattle.jc_code.specs.MethodFaults.{code_faults, code_faults_from}
use Rattle.jc_list.proofs.methods.FaultsByMethod.{some_in}
use Rattle.jc_list.proofs.faults.write_faults_by_method.Given as goal

-- all lines but those of the methods that are left, and whether a fault is found or left
abbrev pub invariant-loop-number : goal.invariant-loop-number
invariant-loop-number g l = record {
  class : (enumerate_source l.number-iterator).class ≡ l.sizes;
  holders : AreOf holders.Method (enumerate_source l.number-iterator).left;
  sent : HasSent g.W.Output.written g.W.Output.failures l.fn.out l.out (flat_map code_fault_line (code_faults l.sizes))
      (flat_map code_fault_line (code_faults_from l.sizes (enumerate_count l.number-iterator) (members_of (enumerate_source l.number-iterator).left)));
  some : l.some || some_in (code_faults_from l.sizes (enumerate_count l.number-iterator) (members_of (enumerate_source l.number-iterator).left)) ≡ some_in (code_faults l.sizes);
}
