use Rattle.std.proofs.Common.{◌≡◌, ◌<◌, Some, true, length}
use Rattle.jc_numbered.specs.inside.FinalSearches.{IsPath, last_of}
use Rattle.jc_numbered.specs.inside.Indexed.{good_at, rank_at, superclass_at}
use Rattle.jc_numbered.specs.inside.Shown.{indexed_of}
use Rattle.jc_numbered.proofs.overriding.path_of.Given as goal

abbrev pub invariant-loop-above : goal.invariant-loop-above
invariant-loop-above l = record {
  path : IsPath (length l.classes.standing.now) (indexed_of l.classes) l.class l.path.items (superclass_at (indexed_of l.classes) l.node);
  last : last_of l.path.items ≡ Some l.node;
  within : l.node < length l.classes.standing.now;
  good : good_at (indexed_of l.classes) l.node ≡ true;
}

abbrev pub decreases-loop-above : goal.decreases-loop-above
decreases-loop-above l = rank_at (indexed_of l.classes) l.node
