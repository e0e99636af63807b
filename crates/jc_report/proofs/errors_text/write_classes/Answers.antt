use Rattle.std.proofs.Common.{◌≡◌, ◌∷◌, ◌∙◌, ◌+◌, None, Some, drop, ap, arith, sym}
use Rattle.std.specs.List.{slice_get}
use Rattle.std.proofs.lemmas.List.{drop_all, drop_more}
use Rattle.std.proofs.lemmas.Option.{gets}
use Rattle.jc_text.proofs.Sending.{all_sent, none_sent, part_sent}
use Rattle.jc_report.specs.ErrorsText.{asked_lent, classes_errors}
use Rattle.jc_report.proofs.reports.Inheritances.{errors_next, errors_past, no_more}
use Rattle.jc_report.proofs.errors_text.write_classes.Goals as goal

pub loop-place-init : goal.loop-place-init
loop-place-init g c = none_sent _ _ _ _

pub returns-in-None : goal.returns-in-None
returns-in-None g c =
    let n = c.loop-place.place in
    let at : slice_get c.args.classes.now n ≡ None = grind (arith, gets, c.in-None.ensures.lookup) in
    all_sent c.loop-place.invariant (errors_past (asked_lent c.args.asked) c.args.classes.now (drop n c.args.inheritance.now) (drop n c.args.unimplemented.now) n at)

pub loop-place-preserved : goal.loop-place-preserved
loop-place-preserved g c =
    let n = c.loop-place.place in
    let asked = asked_lent c.args.asked in
    let cs = c.args.classes.now in
    let es = c.args.inheritance.now in
    let ls = c.args.unimplemented.now in
    let e = c.index-inheritance-place.result in
    let at : slice_get cs n ≡ Some c.in-Some.class.now = grind (arith, gets, c.in-Some.ensures.lookup) in
    let next : drop n es ≡ e ∷ drop (n + 1) es = drop_more es n e c.loop-place-test.true ∙ ap (λ x. x ∷ drop (n + 1) es) (sym c.index-inheritance-place.is) in
    part_sent c.loop-place.invariant
    (ap (λ left. classes_errors asked (drop n cs) left (drop n ls)) next ∙ errors_next asked cs (drop (n + 1) es) ls n c.in-Some.class.now e at)
    c.write_class.ensures

pub returns : goal.returns
returns g c =
    let n = c.loop-place.place in
    all_sent c.loop-place.invariant
    (ap (λ left. classes_errors (asked_lent c.args.asked) (drop n c.args.classes.now) left (drop n c.args.unimplemented.now))
    (drop_all n c.args.inheritance.now c.loop-place-test.false)
    ∙ no_more (asked_lent c.args.asked) (drop n c.args.classes.now) (drop n c.args.unimplemented.now))
