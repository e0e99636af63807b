use Rattle.std.proofs.Common.{sym, ◌∙◌, refl, subst}
use Rattle.std.proofs.lemmas.Bool.{false≢true}
use Rattle.std.proofs.lemmas.List.{take_all}
use Rattle.jc_base.specs.ModifiedUtf8.{IsWellSpelled}
use Rattle.jc_base.proofs.texts.WellSpelledFronts.{ascii_spelled, one_more, longest_front, whole_front}
use Rattle.jc_base.proofs.texts.TestsDecide.{same_answer, spelled_decides}
use Rattle.jc_base.proofs.modified_utf8.check_units.Goals as goal

pub loop-place-preserved : goal.loop-place-preserved
loop-place-preserved c =
    let more = one_more c.args.text.now c.loop-place.place _ _ c.loop-place.invariant.0 c.loop-place.invariant.1 (sym c.unit_at.ensures.value ∙ c.in-Some.is) in
    (more.1, more.2)

pub returns-in-None-clause-ok : goal.returns-in-None-clause-ok
returns-in-None-clause-ok c =
    let longest = longest_front c.args.text.now c.loop-place.place c.loop-place-test.true c.loop-place.invariant.1 (sym c.unit_at.ensures.value ∙ c.in-None.is) in
    (λ e. absurd (false≢true e), λ well. absurd (whole_front c.args.text.now c.loop-place.place longest well))

pub returns-in-None-clause-place : goal.returns-in-None-clause-place
returns-in-None-clause-place c =
    longest_front c.args.text.now c.loop-place.place c.loop-place-test.true c.loop-place.invariant.1 (sym c.unit_at.ensures.value ∙ c.in-None.is)

pub returns-in-None-clause-computed : goal.returns-in-None-clause-computed
returns-in-None-clause-computed c = same_answer _ _ (returns-in-None-clause-ok c) (spelled_decides c.args.text.now)

pub returns-clause-computed : goal.returns-clause-computed
returns-clause-computed c =
    let text = subst IsWellSpelled (take_all c.loop-place.place c.args.text.now c.loop-place-test.false) c.loop-place.invariant.1 in
    same_answer _ _ (λ _. text, λ _. refl) (spelled_decides c.args.text.now)

pub returns-then-is_plain-clause-ok : goal.returns-then-is_plain-clause-ok
returns-then-is_plain-clause-ok c = (λ _. ascii_spelled c.args.text.now (sym c.is_plain.ensures ∙ c.if-is_plain.true), λ _. refl)

pub returns-then-is_plain-clause-computed : goal.returns-then-is_plain-clause-computed
returns-then-is_plain-clause-computed c = same_answer _ _ (returns-then-is_plain-clause-ok c) (spelled_decides c.args.text.now)
