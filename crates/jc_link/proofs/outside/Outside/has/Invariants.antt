use Rattle.std.proofs.Common.{◌≡◌, drop}
use Rattle.jc_link.specs.Prefixes.{holds}
use Rattle.jc_link.proofs.outside.Outside.has.Given as goal

abbrev pub invariant-loop-place : goal.invariant-loop-place
invariant-loop-place l = holds (drop l.place l.self) l.prefix ≡ holds l.self l.prefix
