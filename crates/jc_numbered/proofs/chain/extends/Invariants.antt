use Rattle.std.proofs.Common.{◌≡◌, ◌<◌, true, length}
use Rattle.jc_numbered.specs.inside.Indexed.{good_at, rank_at}
use Rattle.jc_numbered.specs.inside.Shown.{indexed_of}
use Rattle.jc_numbered.specs.inside.Chain.{ExtendsNode}
use Rattle.jc_numbered.proofs.chain.extends.Given as goal

abbrev pub invariant-loop-node : goal.invariant-loop-node
invariant-loop-node l = record {
  within : l.node < length l.classes.standing.now;
  good : good_at (indexed_of l.classes) l.node ≡ true;
  up : ExtendsNode (indexed_of l.classes) l.node l.other → ExtendsNode (indexed_of l.classes) l.start l.other;
  down : ExtendsNode (indexed_of l.classes) l.start l.other → ExtendsNode (indexed_of l.classes) l.node l.other;
}

abbrev pub decreases-loop-node : goal.decreases-loop-node
decreases-loop-node l = rank_at (indexed_of l.classes) l.node
