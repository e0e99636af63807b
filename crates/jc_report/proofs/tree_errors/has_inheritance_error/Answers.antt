use Rattle.std.proofs.Common.{◌≡◌, ◌∷◌, ◌∙◌, ◌+◌, ◌||◌, None, Some, ap, arith, drop, sym}
use Rattle.std.specs.List.{slice_get}
use Rattle.std.proofs.lemmas.List.{drop_all, drop_more}
use Rattle.std.proofs.lemmas.Option.{gets}
use Rattle.jc_report.specs.ErrorsText.{asked_lent, has_inheritance_error}
use Rattle.jc_report.proofs.reports.Inheritances.{any_next, any_past, none_more}
use Rattle.jc_report.proofs.tree_errors.has_inheritance_error.Goals as goal

pub returns-then-has_error : goal.returns-then-has_error
returns-then-has_error c =
    let n = c.loop-place.place in
    let asked = asked_lent c.args.asked in
    let cs = c.args.classes.now in
    let es = c.args.inheritance.now in
    let ls = c.args.unimplemented.now in
    let e = c.index-inheritance-place.result in
    let at : slice_get cs n ≡ Some c.in-Some.class.now = grind (arith, gets, c.in-Some.ensures.lookup) in
    let next : drop n es ≡ e ∷ drop (n + 1) es = drop_more es n e c.loop-place-test.true ∙ ap (λ x. x ∷ drop (n + 1) es) (sym c.index-inheritance-place.is) in
    sym (c.loop-place.invariant ∙ ap (λ left. has_inheritance_error asked (drop n cs) left (drop n ls)) next ∙ any_next asked cs (drop (n + 1) es) ls n c.in-Some.class.now e at
    ∙ ap (λ b. b || has_inheritance_error asked (drop (n + 1) cs) (drop (n + 1) es) (drop (n + 1) ls)) (sym c.has_error.ensures ∙ c.if-has_error.true))

pub loop-place-preserved : goal.loop-place-preserved
loop-place-preserved c =
    let n = c.loop-place.place in
    let asked = asked_lent c.args.asked in
    let cs = c.args.classes.now in
    let es = c.args.inheritance.now in
    let ls = c.args.unimplemented.now in
    let e = c.index-inheritance-place.result in
    let at : slice_get cs n ≡ Some c.in-Some.class.now = grind (arith, gets, c.in-Some.ensures.lookup) in
    let next : drop n es ≡ e ∷ drop (n + 1) es = drop_more es n e c.loop-place-test.true ∙ ap (λ x. x ∷ drop (n + 1) es) (sym c.index-inheritance-place.is) in
    c.loop-place.invariant ∙ ap (λ left. has_inheritance_error asked (drop n cs) left (drop n ls)) next ∙ any_next asked cs (drop (n + 1) es) ls n c.in-Some.class.now e at
    ∙ ap (λ b. b || has_inheritance_error asked (drop (n + 1) cs) (drop (n + 1) es) (drop (n + 1) ls)) (sym c.has_error.ensures ∙ c.if-has_error.false)

pub returns-in-None : goal.returns-in-None
returns-in-None c =
    let n = c.loop-place.place in
    let at : slice_get c.args.classes.now n ≡ None = grind (arith, gets, c.in-None.ensures.lookup) in
    sym (c.loop-place.invariant ∙ any_past (asked_lent c.args.asked) c.args.classes.now (drop n c.args.inheritance.now) (drop n c.args.unimplemented.now) n at)

pub returns : goal.returns
returns c =
    let n = c.loop-place.place in
    sym (c.loop-place.invariant
    ∙ ap (λ left. has_inheritance_error (asked_lent c.args.asked) (drop n c.args.classes.now) left (drop n c.args.unimplemented.now))
    (drop_all n c.args.inheritance.now c.loop-place-test.false)
    ∙ none_more (asked_lent c.args.asked) (drop n c.args.classes.now) (drop n c.args.unimplemented.now))
