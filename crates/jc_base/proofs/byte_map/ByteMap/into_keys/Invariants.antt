use Rattle.std.proofs.Common.{◌≡◌, ◌++◌}
use Rattle.jc_base.proofs.byte_map.ByteMap.into_keys.Given as goal

abbrev pub invariant-loop-key : goal.invariant-loop-key
invariant-loop-key g l = l.keys.items ++ l.key-iterator ≡ l.initial.key-iterator
