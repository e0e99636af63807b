use Rattle.std.proofs.Common.{◌≡◌, ◌<◌, true, length}
use Rattle.jc_classes.specs.Lent.{key_lent}
use Rattle.jc_classes.specs.Worlds.{World}
use Rattle.jc_numbered.specs.inside.Indexed.{IsIndexed, good_at, indexed_name, rank_at}
use Rattle.jc_numbered.specs.inside.Shown.{indexed_of}
use Rattle.jc_classes.specs.Selection.{DeclaresInstance}
use Rattle.jc_resolve.proofs.selection.inherits_instance.Given as goal

abbrev pub invariant-loop-class : goal.invariant-loop-class
invariant-loop-class l = record {
  within : l.node < length l.classes.standing.now;
  good : good_at (indexed_of l.classes) l.node ≡ true;
  up : (m : World) → IsIndexed m (indexed_of l.classes) → DeclaresInstance m (key_lent l.key) (indexed_name (indexed_of l.classes) l.class)
      → DeclaresInstance m (key_lent l.key) (indexed_name (indexed_of l.classes) l.node);
  down : (m : World) → IsIndexed m (indexed_of l.classes) → DeclaresInstance m (key_lent l.key) (indexed_name (indexed_of l.classes) l.node)
      → DeclaresInstance m (key_lent l.key) (indexed_name (indexed_of l.classes) l.class);
}

abbrev pub decreases-loop-class : goal.decreases-loop-class
decreases-loop-class l = rank_at (indexed_of l.classes) l.node
