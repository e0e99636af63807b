use Rattle.std.specs.Prelude.{◌≡◌, length}
use Rattle.jc_link.specs.Tables.{classes_in}
use Rattle.jc_link.proofs.table.TableClassesIterator.next.Given as goal

abbrev pub invariant-loop-place : goal.invariant-loop-place
invariant-loop-place l = classes_in l.self-inside.places ≡ classes_in l.initial.self-inside.places

abbrev pub decreases-loop-place : goal.decreases-loop-place
decreases-loop-place l = length l.self-inside.places
