use Rattle.std.proofs.Common.{◌≡◌, ◌∷◌, ◌∙◌, ◌+◌, ◌<◌, ◌≤◌, [], None, Some, ap, arith, drop, length, sym}
use Rattle.std.specs.Prelude.{slice_get, slice_index_or}
use Rattle.std.proofs.lemmas.List.{drop_all, drop_more}
use Rattle.std.proofs.lemmas.Option.{get_or_from_slice_get, slice_get_within}
use Rattle.jc_text.proofs.Sending.{none_sent}
use Rattle.jc_list.proofs.fronts.OneBehindAnother.{all_listed, item_listed}
use Rattle.jc_report.specs.ErrorsText.{unimplemented_error}
use Rattle.jc_resolve.specs.Methods.{inherited_of}
use Rattle.jc_report.proofs.reports.Inheritances.{there_is_one}
use Rattle.jc_report.proofs.inheritance_errors.write_unimplemented.Goals as goal

pub loop-number-init : goal.loop-number-init
loop-number-init g c = none_sent _ _ _ _

pub loop-number-preserved : goal.loop-number-preserved
loop-number-preserved g c =
    let xs = slice_index_or c.args.unimplemented.now c.args.place [] in
    let n = c.loop-number.number in
    let i = inherited_of c.in-Some.method in
    let at : slice_get xs n ≡ Some i = sym c.in-Some.ensures in
    let first : drop n xs ≡ i ∷ drop (n + 1) xs = drop_more xs n i (slice_get_within xs n i at) ∙ ap (λ y. y ∷ drop (n + 1) xs) (get_or_from_slice_get xs n i i at) in
    item_listed (unimplemented_error c.args.name.now) c.loop-number.invariant first c.write_unimplemented_error.ensures

pub returns-in-None : goal.returns-in-None
returns-in-None g c =
    let xs = slice_index_or c.args.unimplemented.now c.args.place [] in
    let n = c.loop-number.number in
    let within : n < length xs = let q = c.loop-number-test.true in let r = c.count-number-end.ensures in omega (arith, q, r) in
    absurd (there_is_one xs n within (sym c.in-None.ensures))

pub returns : goal.returns
returns g c =
    let xs = slice_index_or c.args.unimplemented.now c.args.place [] in
    let n = c.loop-number.number in
    let end : length xs ≤ n = let q = c.loop-number-test.false in let r = c.count-number-end.ensures in omega (arith, q, r) in
    all_listed (unimplemented_error c.args.name.now) c.loop-number.invariant (drop_all n xs end)
