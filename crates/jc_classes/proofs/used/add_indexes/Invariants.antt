use Rattle.std.proofs.Common.{◌≡◌, ◌++◌}
use Rattle.jc_classes.proofs.used.add_indexes.Given as goal

-- with those that are left
abbrev pub invariant-loop-index : goal.invariant-loop-index
invariant-loop-index l = l.names.items ++ l.index-iterator ≡ l.fn.names.items ++ l.fn.indexes
