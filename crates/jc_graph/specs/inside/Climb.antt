-- The nodes that can be reached from some nodes, as far as they are known.
use Rattle.std.specs.Prelude.{◌≡◌, ℕ, ◌<◌, Bool, true, List, length}
use Rattle.std.specs.List.{Contains}
use Rattle.jc_graph.specs.Graph.{Successors}
use Rattle.jc_graph.specs.Seen.{flag_at, node_at, IsSeen, AboveSome}

-- each node that was seen can be reached from a start, and all successors of the first i starts were seen
pub record Rooted (count : ℕ) (next : Successors) (starts : List ℕ) (flags : List Bool) (list : List ℕ) (i : ℕ) : Type 0 where
  pub size : length flags ≡ count
  pub seen : IsSeen flags list
  pub sound : (v : ℕ) → flag_at flags v ≡ true → AboveSome next starts v
  pub first : (j v : ℕ) → j < i → Contains (next (node_at starts j)) v → flag_at flags v ≡ true

-- the same for all starts, and all successors of the first `at` nodes of the list were seen
pub record Climbing (count : ℕ) (next : Successors) (starts : List ℕ) (flags : List Bool) (list : List ℕ) (at : ℕ) : Type 0 where
  pub rooted : Rooted count next starts flags list (length starts)
  pub closed : (j v : ℕ) → j < at → Contains (next (node_at list j)) v → flag_at flags v ≡ true
