use Rattle.std.proofs.Common.{◌≡◌, ◌++◌, length, map}
use Rattle.jc_code.specs.inside.Found.{faults_of_others, jumps_of}
use Rattle.jc_code.specs.inside.FirstPass.{named_if, uses_if}
use Rattle.jc_code.specs.inside.Fronts.{BeginsWith}
use Rattle.jc_code.specs.inside.Marks.{marked}
use Rattle.jc_code.proofs.marks.Marked.{IsMarked}
use Rattle.jc_code.proofs.first_pass.first_pass.Given as goal

-- what is marked, kept, found and noted, and what is left, are all; none that is left lies before what is marked
abbrev pub invariant-loop-place : goal.invariant-loop-place
invariant-loop-place l = record {
  end : l.insns.end ≡ l.initial.insns.end;
  all : marked l.marks.items ++ map (λ item. item.0) l.insns.left ≡ map (λ item. item.0) l.initial.insns.left;
  marks : IsMarked l.marks.items (length l.fn.code) l.initial.insns.end l.insns.left;
  jumps : l.jumps.items ++ jumps_of l.insns.left ≡ jumps_of l.initial.insns.left;
  found : l.found.items ++ faults_of_others l.fn.scope l.insns.left ≡ faults_of_others l.fn.scope l.initial.insns.left;
  uses : l.uses.items ++ uses_if l.fn.are_wanted l.fn.method l.insns.left ≡ l.fn.uses.items ++ uses_if l.fn.are_wanted l.fn.method l.initial.insns.left;
  names : l.names.items ++ named_if l.fn.are_wanted l.insns.left ≡ l.fn.names.items ++ named_if l.fn.are_wanted l.initial.insns.left;
  uses_kept : BeginsWith l.uses.items l.fn.uses.items;
  names_kept : BeginsWith l.names.items l.fn.names.items;
}
