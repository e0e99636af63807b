use Rattle.std.proofs.Common.{◌≡◌, map, take}
use Rattle.jc_numbered.specs.inside.Packages.{package_end}
use Rattle.jc_numbered.proofs.packages.package_ends.Given as goal

abbrev pub invariant-loop-node : goal.invariant-loop-node
invariant-loop-node l = l.ends.items ≡ map package_end (take l.node l.names)
