use Rattle.std.proofs.Common.{◌≡◌, ◌++◌, length}
use Rattle.jc_report.specs.inside.ProvidedInOrder.{provided_in, rows_left}
use Rattle.jc_report.proofs.provided.ProvidedIterator.next.Given as goal

abbrev pub invariant-loop-row : goal.invariant-loop-row
invariant-loop-row g l =
    rows_left l.self-inside.rows ++ provided_in (g.C.ClassesLeft.left l.self-inside.classes)
    ≡ rows_left l.initial.self-inside.rows ++ provided_in (g.C.ClassesLeft.left l.initial.self-inside.classes)

abbrev pub decreases-loop-row : goal.decreases-loop-row
decreases-loop-row g l = length (g.C.ClassesLeft.left l.self-inside.classes)
