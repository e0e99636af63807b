use Rattle.std.proofs.Common.{◌≡◌, map, take}
use Rattle.jc_index.proofs.packed_names.pack.Given as goal

abbrev pub invariant-loop-name : goal.invariant-loop-name
invariant-loop-name l = l.texts ≡ map (λ name. name.now) (take l.name-index l.names)
