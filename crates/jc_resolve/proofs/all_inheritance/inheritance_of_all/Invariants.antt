use Rattle.std.proofs.Common.{◌≡◌, length, take}
use Rattle.jc_numbered.specs.inside.FinalSearches.{IsSearch}
use Rattle.jc_numbered.specs.inside.Shown.{indexed_of}
use Rattle.jc_resolve.specs.inside.Inheritance.{AreFound, TellErrors}
use Rattle.jc_resolve.proofs.all_inheritance.inheritance_of_all.Given as goal

abbrev pub invariant-loop-node : goal.invariant-loop-node
invariant-loop-node l = record {
  size : length l.found.items ≡ length l.classes.standing.now;
  found : AreFound (indexed_of l.classes) l.loads l.found.items;
  search : IsSearch (length l.classes.standing.now) (indexed_of l.classes) l.search;
  all : TellErrors (indexed_of l.classes) l.loads (take l.node-index l.nodes) l.all.items;
}
