use Rattle.std.proofs.Common.{◌∙◌, ◌+◌, drop, ap, arith, sym}
use Rattle.std.proofs.lemmas.List.{drop_all}
use Rattle.jc_text.proofs.Sending.{all_sent, none_sent, part_sent, sends_equal}
use Rattle.jc_classes.specs.Lent.{reference_lent}
use Rattle.jc_resolve.specs.Answers.{answer_of}
use Rattle.jc_report.specs.ErrorsText.{answer_error, answer_errors}
use Rattle.jc_report.proofs.errors.ErrorLines.{errors_next, errors_past, no_more}
use Rattle.jc_report.proofs.reports.AnswersLeft.{next_answer}
use Rattle.jc_report.proofs.reference_errors.write_answer_errors.Goals as goal

pub loop-number-init : goal.loop-number-init
loop-number-init g c = none_sent _ _ _ _

pub returns-in-None : goal.returns-in-None
returns-in-None g c =
    let n = c.loop-number.number in
    all_sent c.loop-number.invariant (errors_past c.args.used_only c.args.facts.now n c.args.facts.now.references (drop n c.args.answers.now) n (sym c.in-None.ensures))

pub loop-number-preserved : goal.loop-number-preserved
loop-number-preserved g c =
    let used_only = c.args.used_only in
    let f = c.args.facts.now in
    let refs = c.args.facts.now.references in
    let answers = c.args.answers.now in
    let n = c.loop-number.number in
    let r = reference_lent c.in-Some.reference in
    let a = c.at.result in
    part_sent c.loop-number.invariant
    (ap (answer_errors used_only f n (drop n refs)) (next_answer answers n a c.at.ensures) ∙ errors_next used_only f refs (drop (n + 1) answers) n r (answer_of a) (sym c.in-Some.ensures))
    (sends_equal (ap (λ u. answer_error used_only f r u (answer_of a)) c.user_at-user.ensures) c.write_answer_error.ensures)

pub returns : goal.returns
returns g c =
    let n = c.loop-number.number in
    all_sent c.loop-number.invariant
    (ap (answer_errors c.args.used_only c.args.facts.now n (drop n c.args.facts.now.references)) (drop_all n c.args.answers.now (omega (arith, c.loop-number-test.false, c.len-number-end.ensures)))
    ∙ no_more c.args.used_only c.args.facts.now n (drop n c.args.facts.now.references))
