use Rattle.std.proofs.Common.{◌≡◌, ◌&&◌, not, take}
use Rattle.jc_classes.specs.Names.{Name}
use Rattle.jc_linkage.specs.inside.Kept.{Relation, fresh_has, held_in, linked}
use Rattle.jc_linkage.proofs.replacement.undo_fresh.Given as goal

abbrev pub invariant-loop-one : goal.invariant-loop-one
invariant-loop-one l = (r : Relation) (n d : Name) → linked r l.dependants n d ≡ (linked r l.fn.dependants n d && not (fresh_has r (take l.one-index l.fresh) d n && not (held_in r l.kept d n)))
