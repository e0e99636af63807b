use Rattle.std.proofs.Common.{◌≡◌, ◌<◌, ℕ, length}
use Rattle.jc_graph.specs.declared.walk.Place.TheVariants.{Unseen}
use Rattle.jc_graph.specs.Graph.{successors_of}
use Rattle.jc_graph.specs.inside.Walk.{state_of, place_at, IsWalk}
use Rattle.jc_graph.proofs.sorting.sort_nodes.Given as goal

abbrev pub invariant-loop-node : goal.invariant-loop-node
invariant-loop-node l = record {
  walk : IsWalk (successors_of l.graph) (length l.graph) (state_of l.walk);
  empty : length l.walk.segments.items ≡ 0;
  seen : (v : ℕ) → v < l.node → place_at l.walk.place.items v ≡ Unseen → ⊥;
}
