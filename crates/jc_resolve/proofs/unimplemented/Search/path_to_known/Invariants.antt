use Rattle.std.proofs.Common.{◌≡◌, ◌<◌, ◌+◌, ℕ, [], Some, true, length}
use Rattle.std.specs.Option.{option_map_or}
use Rattle.jc_numbered.specs.inside.FinalSearches.{IsPath}
use Rattle.jc_numbered.specs.inside.Indexed.{good_at, rank_at}
use Rattle.jc_numbered.specs.inside.Shown.{indexed_of}
use Rattle.jc_resolve.proofs.unimplemented.Search.path_to_known.Given as goal

abbrev pub invariant-loop-next : goal.invariant-loop-next
invariant-loop-next l = record {
  path : IsPath (length l.classes.standing.now) (indexed_of l.classes) l.class l.path.items l.next;
  empty : l.path.items ≡ [] → l.next ≡ Some l.class;
  within : (v : ℕ) → l.next ≡ Some v → v < length l.classes.standing.now;
  good : (v : ℕ) → l.next ≡ Some v → good_at (indexed_of l.classes) v ≡ true;
}

abbrev pub decreases-loop-next : goal.decreases-loop-next
decreases-loop-next l = option_map_or (λ (v : ℕ). rank_at (indexed_of l.classes) v + 1) l.next 0
