use Rattle.std.proofs.Common.{◌≡◌, ◌<◌, ◌≤◌, ℕ, length}
use Rattle.jc_resolve.specs.inside.Loading.{rank_in}
use Rattle.jc_resolve.proofs.all_loads.rank_all.Given as goal

abbrev pub invariant-loop-at : goal.invariant-loop-at
invariant-loop-at l = record {
  within : l.at ≤ length l.order;
  size : length l.ranks.items ≡ l.count;
  places : (j : ℕ) → l.at ≤ j → j < length l.order → (rank_in l.ranks.items (rank_in l.order j) ≤ j) × (rank_in l.order (rank_in l.ranks.items (rank_in l.order j)) ≡ rank_in l.order j);
}

abbrev pub decreases-loop-at : goal.decreases-loop-at
decreases-loop-at l = l.at
