use Rattle.std.proofs.Common.{◌≡◌, ◌∙◌, ℕ, List, ◌++◌, ap, sym, arith, length, suc, append_assoc}
use Rattle.jc_view.specs.Lent.{handler_of}
use Rattle.jc_code.specs.declared.code_fault.CodeFault.{CodeFault}
use Rattle.jc_code.specs.CodeFaults.{handler_breaks}
use Rattle.jc_code.specs.inside.Found.{faults_at, handler_faults}
use Rattle.jc_code.proofs.faults.add_handler_faults.Goals as goal

pub loop-place-init : goal.loop-place-init
loop-place-init c =
    let it = c.into_iter-place-iterator.result in
    let handlers = c.args.code.now.code.handlers in
    let none : it.count ≡ 0 = ap (λ i. i.count) c.into_iter-place-iterator.ensures.into_iter_gives ∙ c.enumerate-place-items.ensures.count in
    let all : it.iter ≡ handlers = ap (λ i. i.iter) c.into_iter-place-iterator.ensures.into_iter_gives ∙ c.enumerate-place-items.ensures.source ∙ c.handlers.ensures.left in
    let long : length it.iter ≡ length handlers = ap length all in
    record {
      found = ap (λ n. c.args.found.now.items ++ handler_faults c.args.scope.now n it.iter) none ∙ ap (λ hs. c.args.found.now.items ++ handler_faults c.args.scope.now 0 hs) all;
      few = omega (arith, none, long, c.handlers.ensures.few);
    }

pub overflow_cast-place : goal.overflow_cast-place
overflow_cast-place c = omega (arith, c.in-Some.ensures.steps.1, c.loop-place.invariant.few)

pub loop-place-preserved : goal.loop-place-preserved
loop-place-preserved c =
    let s = c.args.scope.now in
    let old = c.loop-place.place-iterator in
    let new = c.next.new.self in
    let before = c.loop-place.found.items in
    let here : ℕ → List CodeFault = λ place. faults_at (λ rule. handler_breaks rule s (handler_of c.in-Some.handler)) place in
    let shorter : length old.iter ≡ suc (length new.iter) = ap length c.in-Some.ensures.steps.0 in
    record {
      found =
          ap (λ found. found ++ handler_faults s new.count new.iter) c.in_ok-add_of_handler.ensures
          ∙ append_assoc before (here c.in-Some.place) (handler_faults s new.count new.iter)
          ∙ ap (λ place. before ++ (here place ++ handler_faults s new.count new.iter)) c.in-Some.ensures.steps.1
          ∙ ap (λ n. before ++ (here old.count ++ handler_faults s n new.iter)) c.in-Some.ensures.steps.2
          ∙ ap (λ hs. before ++ handler_faults s old.count hs) (sym c.in-Some.ensures.steps.0)
          ∙ c.loop-place.invariant.found;
      few = omega (arith, shorter, c.in-Some.ensures.steps.2, c.loop-place.invariant.few);
    }
