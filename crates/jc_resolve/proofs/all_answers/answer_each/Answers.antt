use Rattle.std.proofs.Common.{ℕ, List, length, get_or, refl, sym, subst, arith}
use Rattle.std.proofs.lemmas.Option.{slice_get-get_or}
use Rattle.jc_classes.specs.Facts.{AreNumbers}
use Rattle.jc_resolve.specs.declared.entry.Entry.{Entry}
use Rattle.jc_resolve.specs.inside.Answered.{IsAnswered}
use Rattle.jc_resolve.proofs.answering.Asking.{done_before, done_each, number_within}
use Rattle.jc_resolve.proofs.all_answers.answer_each.Goals as goal

pub loop-number-preserved : goal.loop-number-preserved
loop-number-preserved c =
    let n = c.in_ok-answer_next.ensures in
    let order = c.deref-number-items.result.now in
    let index = c.loop-number.number-index in
    let answered = λ (entries : List (Entry ℕ)) (at : ℕ). IsAnswered c.args.look.now c.args.facts.now.references entries at in
    record {
      room = n.room;
      size = n.size;
      before = (
        number_within (length c.args.facts.now.references) order index 0 (subst (AreNumbers (length c.args.facts.now.references)) (sym c.deref-number-items.ensures.value) c.in_ok-order.ensures) c.loop-number-test.true,
        n.answered (get_or order index 0) (λ ne. absurd (ne refl)),
      );
      answered = done_before order index (answered c.loop-number.entries.items) (answered c.answer_next.new.entries.items) (get_or order index 0)
          (slice_get-get_or order index 0 c.loop-number-test.true) n.answered c.loop-number.invariant.answered;
    }

pub returns-clause-answered : goal.returns-clause-answered
returns-clause-answered c =
    let refs = c.args.facts.now.references in
    let order = c.deref-number-items.result.now in
    let each : AreNumbers (length refs) order = subst (AreNumbers (length refs)) (sym c.deref-number-items.ensures.value) c.in_ok-order.ensures in
    done_each (length refs) order (λ at. IsAnswered c.args.look.now refs c.loop-number.entries.items at) each
    (λ i n l g. c.loop-number.invariant.answered i n (omega (arith, l, c.loop-number-test.false)) g)

pub answer_next-requires-clause-number : goal.answer_next-requires-clause-number
answer_next-requires-clause-number c =
    let order = c.deref-number-items.result.now in
    number_within (length c.args.facts.now.references) order c.loop-number.number-index 0 (subst (AreNumbers (length c.args.facts.now.references)) (sym c.deref-number-items.ensures.value) c.in_ok-order.ensures) c.loop-number-test.true
