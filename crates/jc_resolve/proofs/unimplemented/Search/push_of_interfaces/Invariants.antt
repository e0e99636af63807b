use Rattle.std.proofs.Common.{take}
use Rattle.jc_numbered.specs.inside.Shown.{indexed_of}
use Rattle.jc_resolve.specs.inside.Rooms.{IsRoom}
use Rattle.jc_resolve.specs.inside.Unimplemented.{Adds, IsOf}
use Rattle.jc_resolve.proofs.unimplemented.Search.push_of_interfaces.Given as goal

abbrev pub invariant-loop-interface : goal.invariant-loop-interface
invariant-loop-interface l = record {
  added : Adds (indexed_of l.classes) l.node l.self.methods.all.items (IsOf l.self (take l.interface-index l.interface-items)) l.fn.added.items l.added.items;
  room : IsRoom l.classes l.room;
}
