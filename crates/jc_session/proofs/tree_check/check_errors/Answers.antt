use Rattle.std.proofs.Common.{refl}
use Rattle.jc_report.specs.ErrorsText.{asked_lent, errors_text, has_error_among}
use Rattle.jc_session.proofs.tree_check.check_errors.Goals as goal

pub returns-in-Ok-clause-tells : goal.returns-in-Ok-clause-tells
returns-in-Ok-clause-tells g c = λ f is.
    let e = c.in_ok-errors.errors in
    (f, errors_text (asked_lent c.args.asked) e, refl, (e, c.in_ok-errors.ensures.errors f is, refl, c.has_error_among.ensures), c.in-Ok.ensures.ok)

pub returns-clause-tells : goal.returns-clause-tells
returns-clause-tells g c = λ f is.
    let e = c.in_ok-errors.errors in
    let asked = asked_lent c.args.asked in
    (f, errors_text asked e, has_error_among asked e, refl, (e, c.in_ok-errors.ensures.errors f is, refl, refl), c.in-Err.ensures.front)
