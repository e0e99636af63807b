use Rattle.std.proofs.Common.{◌≡◌, drop}
use Rattle.jc_link.specs.Prefixes.{is_covered}
use Rattle.jc_link.proofs.outside.Outside.covers.Given as goal

abbrev pub invariant-loop-place : goal.invariant-loop-place
invariant-loop-place l = is_covered (drop l.place l.self) l.name ≡ is_covered l.self l.name
