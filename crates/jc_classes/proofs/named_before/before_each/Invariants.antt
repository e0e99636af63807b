use Rattle.std.proofs.Common.{◌≡◌, length}
use Rattle.jc_classes.proofs.texts.NamedBefore.{AreNoted}
use Rattle.jc_classes.proofs.named_before.before_each.Given as goal

abbrev pub invariant-loop-number : goal.invariant-loop-number
invariant-loop-number l = record {
  size : length l.before.items ≡ l.number;
  named : AreNoted l.entries l.before.items;
}
