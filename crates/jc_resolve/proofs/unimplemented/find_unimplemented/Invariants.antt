use Rattle.std.proofs.Common.{length, take}
use Rattle.jc_numbered.specs.inside.Shown.{indexed_of}
use Rattle.jc_resolve.specs.inside.Rooms.{IsRoom}
use Rattle.jc_resolve.specs.inside.Unimplemented.{IsSearch, ListsFor}
use Rattle.jc_resolve.proofs.unimplemented.find_unimplemented.Given as goal

abbrev pub invariant-loop-node : goal.invariant-loop-node
invariant-loop-node l = record {
  lists : ListsFor (indexed_of l.classes) l.search (take l.node-index l.nodes) l.list_of.items;
  search : IsSearch (length l.classes.standing.now) (indexed_of l.classes) l.search;
  room : IsRoom l.classes l.room;
}
