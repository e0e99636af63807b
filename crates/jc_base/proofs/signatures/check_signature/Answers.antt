use Rattle.std.proofs.Common.{◌≡◌, vec_len, ◌<◌, length, subst, sym, ◌∙◌, rules}
use Rattle.std.proofs.lemmas.Bool.{false≢true, eqb-true, eq-eqb}
use Rattle.jc_base.proofs.grammar.Stack.{judge_refuses, judge_ends, no_empty_signature}
use Rattle.jc_base.proofs.grammar.TestDecides.{signature_decides}
use Rattle.jc_base.proofs.texts.TestsDecide.{same_answer}
use Rattle.jc_base.proofs.signatures.check_signature.Goals as goal

pub returns-then-is_empty-clause-ok : goal.returns-then-is_empty-clause-ok
returns-then-is_empty-clause-ok c = (
  λ e. absurd (false≢true e),
  λ is. absurd (no_empty_signature c.args.kind c.args.text.now (eqb-true _ _ (sym c.is_empty.ensures ∙ c.if-is_empty.true)) is),
)

pub returns-then-len-rest-clause-ok : goal.returns-then-len-rest-clause-ok
returns-then-len-rest-clause-ok c =
    let room : length c.in-Some.step.rest.now < length c.push_after.new.stack.items = subst (λ n. length c.in-Some.step.rest.now < n) (c.len.ensures ∙ c.push_after.new.stack.ok.0) c.if-len-rest.true in (
      λ e. absurd (false≢true e),
      λ is. absurd (judge_refuses c.args.kind c.args.text.now c.loop-rest.stack.items c.next_step.new.stack.items c.push_after.new.stack.items c.loop-rest.rest.now c.in-Some.step c.loop-rest.invariant c.in-Some.ensures c.in_ok-push_after.ensures room is),
    )

pub returns-clause-ok : goal.returns-clause-ok
returns-clause-ok c =
    let ends = judge_ends c.args.kind c.args.text.now c.loop-rest.stack.items c.loop-rest.rest.now c.loop-rest.invariant (eqb-true _ _ (sym c.is_empty-in-loop-rest.ensures ∙ c.loop-rest-test.false)) in
    let items : length c.loop-rest.stack.items ≡ vec_len c.loop-rest.stack = sym c.loop-rest.stack.ok.0 in (
      λ e. ends.1 (items ∙ eqb-true (vec_len c.loop-rest.stack) 0 (sym c.is_empty-2.ensures ∙ e)),
      λ is. c.is_empty-2.ensures ∙ eq-eqb (vec_len c.loop-rest.stack) 0 (sym items ∙ ends.0 is),
    )

pub returns-in_default-clause-ok : goal.returns-in_default-clause-ok
returns-in_default-clause-ok c = search rules

pub returns-then-is_empty-clause-test : goal.returns-then-is_empty-clause-test
returns-then-is_empty-clause-test c = same_answer _ _ (returns-then-is_empty-clause-ok c) (signature_decides c.args.kind c.args.text.now)

pub returns-in_default-clause-test : goal.returns-in_default-clause-test
returns-in_default-clause-test c = same_answer _ _ (returns-in_default-clause-ok c) (signature_decides c.args.kind c.args.text.now)

pub returns-then-len-rest-clause-test : goal.returns-then-len-rest-clause-test
returns-then-len-rest-clause-test c = same_answer _ _ (returns-then-len-rest-clause-ok c) (signature_decides c.args.kind c.args.text.now)

pub returns-clause-test : goal.returns-clause-test
returns-clause-test c = same_answer _ _ (returns-clause-ok c) (signature_decides c.args.kind c.args.text.now)
