use Rattle.std.proofs.Common.{◌≡◌, None, replicate}
use Rattle.jc_resolve.proofs.all_inheritance.none_found.Given as goal

abbrev pub invariant-loop : goal.invariant-loop
invariant-loop l = l.found.items ≡ replicate l.counter None
