use Rattle.std.proofs.Common.{◌++◌, map}
use Rattle.jc_file.specs.Faults.{repeated, fault_at}
use Rattle.jc_file.proofs.keys.MembersPassed.{HavePassed}
use Rattle.jc_file.proofs.repeated.add_each.Given as goal

abbrev pub invariant-loop-place : goal.invariant-loop-place
invariant-loop-place l =
    HavePassed l.fn.members.class l.rule (l.fn.faults.items ++ map (fault_at l.rule) (repeated l.fn.members.class (map (λ m. m.member) l.fn.members.left)))
    l.texts l.seen.keys l.place-iterator.count l.place-iterator.iter l.faults.items
