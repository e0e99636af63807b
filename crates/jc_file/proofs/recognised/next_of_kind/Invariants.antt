use Rattle.std.proofs.Common.{◌≡◌, length}
use Rattle.jc_file.specs.inside.Recognised.{of_kind_left}
use Rattle.jc_file.proofs.recognised.next_of_kind.Given as goal

abbrev pub decreases-loop-attribute : goal.decreases-loop-attribute
decreases-loop-attribute l = length l.attributes.left

-- those of the kind are left
abbrev pub invariant-loop-attribute : goal.invariant-loop-attribute
invariant-loop-attribute l = (l.attributes.class ≡ l.fn.attributes.class) × (of_kind_left l.kind l.attributes ≡ of_kind_left l.kind l.fn.attributes)
