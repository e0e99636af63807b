use Rattle.std.proofs.Common.{◌≡◌, ◌∷◌, ◌+◌, ◌∙◌, ap, drop, sym}
use Rattle.std.proofs.lemmas.List.{drop_all, drop_more}
use Rattle.jc_text.proofs.Sending.{none_sent}
use Rattle.jc_list.proofs.fronts.OneBehindAnother.{all_listed, item_listed}
use Rattle.jc_report.specs.ErrorsText.{overridden_error}
use Rattle.jc_report.proofs.inheritance_errors.write_overridden.Goals as goal

pub loop-method-init : goal.loop-method-init
loop-method-init g c = none_sent _ _ _ _

pub loop-method-preserved : goal.loop-method-preserved
loop-method-preserved g c =
    let xs = c.args.overridden.now in
    let n = c.loop-method.method-index in
    let x = c.method-item.result in
    let first : drop n xs ≡ x ∷ drop (n + 1) xs = drop_more xs n x c.loop-method-test.true ∙ ap (λ y. y ∷ drop (n + 1) xs) (sym c.method-item.is) in
    item_listed (overridden_error c.args.name.now) c.loop-method.invariant first c.write_overridden_error.ensures

pub returns : goal.returns
returns g c =
    all_listed (overridden_error c.args.name.now) c.loop-method.invariant (drop_all c.loop-method.method-index c.args.overridden.now c.loop-method-test.false)
