use Rattle.std.proofs.Common.{◌≡◌, length}
use Rattle.jc_numbered.specs.inside.FinalSearches.{IsSearch}
use Rattle.jc_numbered.specs.inside.Shown.{indexed_of}
use Rattle.jc_resolve.specs.inside.Inheritance.{AreFound}
use Rattle.jc_resolve.proofs.all_inheritance.find_depth_first.Given as goal

abbrev pub invariant-loop-node : goal.invariant-loop-node
invariant-loop-node l = record {
  size : length l.found.items ≡ length l.classes.standing.now;
  found : AreFound (indexed_of l.classes) l.loads l.found.items;
  search : IsSearch (length l.classes.standing.now) (indexed_of l.classes) l.search;
}
