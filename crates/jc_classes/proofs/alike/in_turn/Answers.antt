use Rattle.std.proofs.Common.{◌≡◌, ◌+◌, length, sym, ap, subst, ◌∙◌, arith}
use Rattle.std.proofs.lemmas.List.{length-append}
use Rattle.jc_classes.proofs.texts.Numbering.{AreInTurn, numbers_in_turn, turn_push}
use Rattle.jc_classes.proofs.alike.in_turn.Goals as goal

pub loop-number-init : goal.loop-number-init
loop-number-init c =
    let e = c.in_ok-numbers.ensures.items in
    record { size = ap length e; turn = subst (AreInTurn 0) (sym e) tt }

pub loop-number-preserved : goal.loop-number-preserved
loop-number-preserved c =
    let old = c.loop-number.numbers.items in
    let e = c.in_ok-push.ensures.items in
    let s = c.loop-number.invariant.size in
    record {
      size = let l : length c.push.new.self.items ≡ length old + 1 = ap length e ∙ length-append old _ in omega (arith, l, s);
      turn = subst (AreInTurn 0) (sym e) (turn_push 0 old c.loop-number.number (omega (arith, s)) c.loop-number.invariant.turn);
    }

pub returns : goal.returns
returns c =
    let s = c.loop-number.invariant.size in
    numbers_in_turn c.args.count c.loop-number.numbers.items (omega (arith, s, c.loop-number-test.false, c.loop-number.auto.number-end)) c.loop-number.invariant.turn
