use Rattle.std.proofs.Common.{◌≡◌, length}
use Rattle.jc_classes.specs.NamedTexts.{without_dimensions}
use Rattle.jc_classes.proofs.reference.without_dimensions.Given as goal

abbrev pub invariant-loop-behind : goal.invariant-loop-behind
invariant-loop-behind l = without_dimensions l.rest ≡ without_dimensions l.descriptor

abbrev pub decreases-loop-behind : goal.decreases-loop-behind
decreases-loop-behind l = length l.rest
