use Rattle.std.proofs.Common.{◌≡◌, ◌++◌, take}
use Rattle.std.specs.List.{flat_map}
use Rattle.jc_numbered.specs.inside.Slots.{escaped}
use Rattle.jc_numbered.proofs.overriding.push_ended.Given as goal

abbrev pub invariant-loop-byte : goal.invariant-loop-byte
invariant-loop-byte l = l.bytes.items ≡ l.fn.bytes.items ++ flat_map escaped (take l.byte-index l.text)
