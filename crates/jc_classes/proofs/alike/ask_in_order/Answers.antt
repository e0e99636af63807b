use Rattle.std.proofs.Common.{◌≡◌, ◌+◌, List, length, map, sym, ap, subst, ◌∙◌, arith}
use Rattle.std.proofs.lemmas.List.{length-append, length-map, map-append}
use Rattle.jc_classes.specs.declared.alike.Asked.{Asked}
use Rattle.jc_classes.proofs.texts.Numbering.{AreInTurn, numbers_sorted, turn_push}
use Rattle.jc_classes.proofs.alike.ask_in_order.Goals as goal

pub loop-number-init : goal.loop-number-init
loop-number-init c =
    let e = c.in_ok-asked.ensures.items in
    record {
      size = ap length e;
      turn = subst (λ (as1 : List Asked). AreInTurn 0 (map (λ (a : Asked). a.number) as1)) (sym e) tt;
    }

pub loop-number-preserved : goal.loop-number-preserved
loop-number-preserved c =
    let number_of = λ (a : Asked). a.number in
    let old = c.loop-number.asked.items in
    let e = c.in_ok-push.ensures.items in
    let s = c.loop-number.invariant.size in
    let m = length-map old number_of in
    record {
      size = let l : length c.push.new.self.items ≡ length old + 1 = ap length e ∙ length-append old _ in omega (arith, l, s);
      turn = subst (AreInTurn 0) (sym (ap (map number_of) e ∙ map-append number_of old _)) (turn_push 0 (map number_of old) c.loop-number.number (omega (arith, s, m)) c.loop-number.invariant.turn);
    }

pub returns : goal.returns
returns c =
    let s = c.loop-number.invariant.size in
    numbers_sorted (length c.args.entries.now) c.loop-number.asked.items c.sort_unstable.new.self.items c.sort_unstable.ensures.permutation (omega (arith, s, c.loop-number-test.false, c.loop-number.auto.number-end)) c.loop-number.invariant.turn
