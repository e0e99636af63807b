use Rattle.std.proofs.Common.{◌≡◌, ◌++◌, map}
use Rattle.jc_numbered.proofs.classes.push_back.Given as goal

abbrev pub invariant-loop-node : goal.invariant-loop-node
invariant-loop-node l = l.stack.items ≡ l.fn.stack.items ++ map (λ x. x.now) l.yielded
