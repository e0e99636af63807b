use Rattle.std.proofs.Common.{◌≡◌, ◌<◌, ◌≤◌, length}
use Rattle.std.specs.List.{All}
use Rattle.jc_numbered.proofs.subclasses.depth_first.Given as goal

abbrev pub invariant-loop : goal.invariant-loop
invariant-loop l = record {
  stack : All (λ v. v < length l.classes.standing.now) l.stack.items;
  count : l.counter ≤ length l.order.items;
  order : All (λ v. v < length l.classes.standing.now) l.order.items;
}
