use Rattle.std.proofs.Common.{length}
use Rattle.jc_numbered.specs.inside.Subclasses.{IsWithin}
use Rattle.jc_numbered.proofs.subclasses.find_subclasses.Given as goal

abbrev pub invariant-loop-node : goal.invariant-loop-node
invariant-loop-node l = IsWithin (length l.classes.standing.now) l.found
