use Rattle.std.proofs.Common.{◌≡◌, Some, length}
use Rattle.jc_numbered.specs.inside.FinalSearches.{IsPath, IsSearch, last_of}
use Rattle.jc_numbered.specs.inside.Shown.{indexed_of}
use Rattle.jc_numbered.proofs.overriding.FinalSearch.enter_all.Given as goal

abbrev pub invariant-loop-node : goal.invariant-loop-node
invariant-loop-node l = record {
  path : IsPath (length l.classes.standing.now) (indexed_of l.classes) l.class l.path.items (last_of l.self.chain.items);
  search : IsSearch (length l.classes.standing.now) (indexed_of l.classes) l.self;
  done : length l.path.items ≡ 0 → last_of l.self.chain.items ≡ Some l.class;
}

abbrev pub decreases-loop-node : goal.decreases-loop-node
decreases-loop-node l = length l.path.items
