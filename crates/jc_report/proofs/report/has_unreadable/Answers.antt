use Rattle.std.proofs.Common.{◌≡◌, ◌∙◌, true, refl, sym}
use Rattle.std.specs.List.{list_any}
use Rattle.jc_report.specs.ErrorsText.{is_wrong_file, asked_lent}
use Rattle.jc_report.proofs.reports.AnyLeft.{any_found, any_none, any_passed}
use Rattle.jc_report.proofs.reports.GoneOver.{along_end, along_next, along_start}
use Rattle.jc_report.proofs.report.has_unreadable.Goals as goal

pub loop-row-init : goal.loop-row-init
loop-row-init g c = rw c.into_iter-row-iterator.ensures.into_iter_gives (c.requires.can, c.requires.ends, along_start (λ all. refl))

pub returns-then-is_wrong_file : goal.returns-then-is_wrong_file
returns-then-is_wrong_file g c all gives =
    let wrong = is_wrong_file (asked_lent c.args.asked) in
    let is = sym c.is_wrong_file.ensures ∙ c.if-is_wrong_file.true in
    ((along_next {Then = λ all rest. true ≡ list_any wrong all} c.in-Some.row c.loop-row.invariant.2 c.in-Some.ensures.steps (λ all rest so_far. any_found wrong so_far refl is)).at all gives).2

pub loop-row-preserved : goal.loop-row-preserved
loop-row-preserved g c =
    let goes = c.in-Some.ensures.goes.on c.loop-row.invariant.1 in
    let wrong = is_wrong_file (asked_lent c.args.asked) in
    let is = sym c.is_wrong_file.ensures ∙ c.if-is_wrong_file.false in
    (goes.0, goes.1, along_next c.in-Some.row c.loop-row.invariant.2 c.in-Some.ensures.steps (λ all rest so_far. any_passed wrong so_far refl is))

pub returns : goal.returns
returns g c all gives = any_none (is_wrong_file (asked_lent c.args.asked)) (along_end _ c.loop-row.invariant.2 c.in-None.ensures.steps all gives) refl
