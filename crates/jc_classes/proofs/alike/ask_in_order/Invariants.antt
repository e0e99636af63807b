use Rattle.std.proofs.Common.{◌≡◌, length, map}
use Rattle.jc_classes.specs.declared.alike.Asked.{Asked}
use Rattle.jc_classes.proofs.texts.Numbering.{AreInTurn}
use Rattle.jc_classes.proofs.alike.ask_in_order.Given as goal

abbrev pub invariant-loop-number : goal.invariant-loop-number
invariant-loop-number l = record {
  size : length l.asked.items ≡ l.number;
  turn : AreInTurn 0 (map (λ (a : Asked). a.number) l.asked.items);
}
