use Rattle.std.proofs.Common.{◌≡◌, ◌∙◌, true, refl, sym}
use Rattle.std.specs.List.{list_any}
use Rattle.jc_report.specs.ClassLent.{class_lent}
use Rattle.jc_report.specs.ErrorsText.{is_wrong_class, asked_lent}
use Rattle.jc_report.proofs.reports.AnyLeft.{any_found, any_none, any_passed}
use Rattle.jc_report.proofs.reports.GoneOver.{along_end, along_next, along_start}
use Rattle.jc_report.proofs.report.has_wrong_part.Goals as goal

pub loop-class-init : goal.loop-class-init
loop-class-init g c = rw c.into_iter-class-iterator.ensures.into_iter_gives (c.requires.can, c.requires.ends, along_start (λ all. refl))

pub returns-then-is_wrong_class : goal.returns-then-is_wrong_class
returns-then-is_wrong_class g c all gives =
    let wrong = is_wrong_class (asked_lent c.args.asked) in
    let is = sym c.is_wrong_class.ensures ∙ c.if-is_wrong_class.true in
    ((along_next {Then = λ all rest. true ≡ list_any wrong all} c.in-Some.class c.loop-class.invariant.2 c.in-Some.ensures.steps (λ all rest so_far. any_found wrong {rest = rest} {x = class_lent c.in-Some.class} so_far refl is)).at all gives).2

pub loop-class-preserved : goal.loop-class-preserved
loop-class-preserved g c =
    let goes = c.in-Some.ensures.goes.on c.loop-class.invariant.1 in
    let wrong = is_wrong_class (asked_lent c.args.asked) in
    let is = sym c.is_wrong_class.ensures ∙ c.if-is_wrong_class.false in
    (goes.0, goes.1, along_next c.in-Some.class c.loop-class.invariant.2 c.in-Some.ensures.steps (λ all rest so_far. any_passed wrong {rest = rest} {x = class_lent c.in-Some.class} so_far refl is))

pub returns : goal.returns
returns g c all gives = any_none (is_wrong_class (asked_lent c.args.asked)) (along_end _ c.loop-class.invariant.2 c.in-None.ensures.steps all gives) refl
