use Rattle.std.proofs.Common.{◌≡◌, ◌∙◌, ◌+◌, true, false, arith, ap, drop, sym}
use Rattle.std.proofs.lemmas.List.{drop_all}
use Rattle.jc_resolve.specs.Answers.{answer_of}
use Rattle.jc_report.specs.ErrorsText.{is_listed, user_at}
use Rattle.jc_report.proofs.errors.LeftErrors.{none_listed, listed_found, listed_passed}
use Rattle.jc_report.proofs.reports.AnswersLeft.{next_answer}
use Rattle.jc_report.proofs.report.has_listed_error.Goals as goal

pub returns-then-is_listed : goal.returns-then-is_listed
returns-then-is_listed c =
    let b = c.args.used_only in
    let f = c.args.facts.now in
    let answers = c.args.answers.now in
    let n = c.loop-number.number in
    let a = answer_of c.at.result in
    let listed : is_listed b (user_at f n) a ≡ true = ap (λ u. is_listed b u a) (sym c.user_at-user.ensures) ∙ sym c.is_listed.ensures ∙ c.if-is_listed.true in
    listed_found b f n _ (drop n answers) (drop (n + 1) answers) a c.loop-number.invariant (next_answer answers n c.at.result c.at.ensures) listed

pub loop-number-preserved : goal.loop-number-preserved
loop-number-preserved c =
    let b = c.args.used_only in
    let f = c.args.facts.now in
    let answers = c.args.answers.now in
    let n = c.loop-number.number in
    let a = answer_of c.at.result in
    let unlisted : is_listed b (user_at f n) a ≡ false = ap (λ u. is_listed b u a) (sym c.user_at-user.ensures) ∙ sym c.is_listed.ensures ∙ c.if-is_listed.false in
    listed_passed b f n _ (drop n answers) (drop (n + 1) answers) a c.loop-number.invariant (next_answer answers n c.at.result c.at.ensures) unlisted

pub returns : goal.returns
returns c =
    let n = c.loop-number.number in
    none_listed c.args.used_only c.args.facts.now n _ (drop n c.args.answers.now) c.loop-number.invariant (drop_all n c.args.answers.now (omega (arith, c.loop-number-test.false, c.len-number-end.ensures)))
