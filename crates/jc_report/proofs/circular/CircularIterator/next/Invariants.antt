-- the names that are left stay the same
use Rattle.std.proofs.Common.{◌≡◌, length}
use Rattle.jc_report.specs.Reports.{circular_names}
use Rattle.jc_report.proofs.circular.CircularIterator.next.Given as goal

abbrev pub invariant-loop-class : goal.invariant-loop-class
invariant-loop-class g l = circular_names (g.C.ClassesLeft.left l.self-inside.classes) ≡ circular_names (g.C.ClassesLeft.left l.initial.self-inside.classes)

abbrev pub decreases-loop-class : goal.decreases-loop-class
decreases-loop-class g l = length (g.C.ClassesLeft.left l.self-inside.classes)
