use Rattle.std.proofs.Common.{◌≡◌, ◌<◌, ℕ, length}
use Rattle.jc_numbered.specs.inside.Shown.{indexed_of}
use Rattle.jc_numbered.specs.inside.Loading.{load_at}
use Rattle.jc_resolve.specs.inside.Loading.{IsTold, rank_in}
use Rattle.jc_resolve.proofs.all_loads.load_all.Given as goal

abbrev pub invariant-loop-at : goal.invariant-loop-at
invariant-loop-at l = record {
  size : length l.loads.items ≡ length l.classes.standing.now;
  told : (k : ℕ) → k < l.at → IsTold (indexed_of l.classes) (rank_in l.sorted.order.items k) (load_at l.loads.items (rank_in l.sorted.order.items k));
}
