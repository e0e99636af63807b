use Rattle.std.proofs.Common.{take}
use Rattle.std.specs.List.{Contains}
use Rattle.jc_numbered.specs.inside.Shown.{indexed_of}
use Rattle.jc_resolve.specs.inside.Rooms.{IsRoom}
use Rattle.jc_resolve.specs.inside.Unimplemented.{Adds}
use Rattle.jc_resolve.proofs.unimplemented.Search.push_of.Given as goal

abbrev pub invariant-loop-number : goal.invariant-loop-number
invariant-loop-number l = record {
  added : Adds (indexed_of l.classes) l.node l.self.methods.all.items (Contains (take l.number-index l.numbers)) l.fn.added.items l.added.items;
  room : IsRoom l.classes l.room;
}
