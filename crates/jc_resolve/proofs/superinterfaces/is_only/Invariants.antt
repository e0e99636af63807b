use Rattle.std.proofs.Common.{◌≡◌, ◌<◌, ℕ, true}
use Rattle.jc_graph.specs.Seen.{node_at}
use Rattle.jc_classes.specs.Lent.{key_lent}
use Rattle.jc_numbered.specs.inside.Shown.{indexed_of}
use Rattle.jc_numbered.specs.inside.Picks.{is_pick}
use Rattle.jc_resolve.proofs.superinterfaces.is_only.Given as goal

abbrev pub invariant-loop-node : goal.invariant-loop-node
invariant-loop-node l = (j : ℕ) → j < l.node-index → is_pick (indexed_of l.classes) (key_lent l.key) l.covered.flags (node_at l.nodes j) ≡ true → node_at l.nodes j ≡ l.first
