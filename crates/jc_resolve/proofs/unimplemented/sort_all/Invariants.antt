use Rattle.std.proofs.Common.{◌≡◌, ◌<◌, ◌≤◌, ℕ, length}
use Rattle.jc_graph.specs.Graph.{successors_of}
use Rattle.jc_resolve.specs.inside.Unimplemented.{IsInOrder}
use Rattle.jc_resolve.proofs.unimplemented.sort_all.Given as goal

abbrev pub invariant-loop-place : goal.invariant-loop-place
invariant-loop-place l = record {
  size : length l.lists.items ≡ length l.fn.lists.items;
  done : (n : ℕ) → n < l.place → IsInOrder (successors_of l.fn.lists.items n) (successors_of l.lists.items n);
  left : (n : ℕ) → l.place ≤ n → successors_of l.lists.items n ≡ successors_of l.fn.lists.items n;
}
