use Rattle.std.proofs.Common.{◌≡◌, take}
use Rattle.jc_link.specs.Prefixes.{without}
use Rattle.jc_link.proofs.outside.Outside.copy_without.Given as goal

-- those of the prefixes so far
abbrev pub invariant-loop-place : goal.invariant-loop-place
invariant-loop-place l = l.held ≡ without (take l.place l.self) l.prefix
