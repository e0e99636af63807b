use Rattle.std.proofs.Common.{◌≡◌, ℕ, length}
use Rattle.jc_graph.specs.declared.walk.Place.TheVariants.{Unseen}
use Rattle.jc_graph.specs.Graph.{successors_of}
use Rattle.jc_graph.specs.inside.Walk.{state_of, place_at, IsWalk, left}
use Rattle.jc_graph.proofs.walk.Walk.see.Given as goal

abbrev pub invariant-loop-last : goal.invariant-loop-last
invariant-loop-last l = record {
  walk : IsWalk (successors_of l.graph) (length l.graph) (state_of l.self);
  seen : (v : ℕ) → place_at l.self.place.items v ≡ Unseen → (place_at l.fn.self.place.items v ≡ Unseen) × (v ≡ l.node → ⊥);
}

abbrev pub decreases-loop-last : goal.decreases-loop-last
decreases-loop-last l = left (state_of l.self)
