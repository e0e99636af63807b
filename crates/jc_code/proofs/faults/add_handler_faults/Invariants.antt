use Rattle.std.proofs.Common.{◌≡◌, ◌+◌, ◌<◌, ◌^◌, ◌++◌, length}
use Rattle.jc_code.specs.inside.Found.{handler_faults}
use Rattle.jc_code.proofs.faults.add_handler_faults.Given as goal

-- the faults so far, and those of the handlers that are left, are all
abbrev pub invariant-loop-place : goal.invariant-loop-place
invariant-loop-place l = record {
  found : l.found.items ++ handler_faults l.scope l.place-iterator.count l.place-iterator.iter ≡ l.fn.found.items ++ handler_faults l.scope 0 l.code.code.handlers;
  few : l.place-iterator.count + length l.place-iterator.iter < 2 ^ 16;
}
