use Rattle.std.proofs.Common.{◌≡◌, length}
use Rattle.jc_classes.proofs.texts.Numbering.{AreInTurn}
use Rattle.jc_classes.proofs.alike.in_turn.Given as goal

abbrev pub invariant-loop-number : goal.invariant-loop-number
invariant-loop-number l = record {
  size : length l.numbers.items ≡ l.number;
  turn : AreInTurn 0 l.numbers.items;
}
