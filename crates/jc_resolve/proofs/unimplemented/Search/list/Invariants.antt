use Rattle.jc_numbered.specs.inside.Shown.{indexed_of}
use Rattle.std.proofs.Common.{length}
use Rattle.jc_resolve.specs.inside.Rooms.{IsRoom}
use Rattle.jc_resolve.specs.inside.Unimplemented.{ExtendsLists, IsPathTo, IsSearch}
use Rattle.jc_resolve.proofs.unimplemented.Search.list.Given as goal

abbrev pub invariant-loop-node : goal.invariant-loop-node
invariant-loop-node l = record {
  path : IsPathTo (length l.classes.standing.now) (indexed_of l.classes) l.self l.class l.path.items l.number;
  search : IsSearch (length l.classes.standing.now) (indexed_of l.classes) l.self;
  kept : ExtendsLists l.fn.self l.self;
  room : IsRoom l.classes l.room;
}

abbrev pub decreases-loop-node : goal.decreases-loop-node
decreases-loop-node l = length l.path.items
