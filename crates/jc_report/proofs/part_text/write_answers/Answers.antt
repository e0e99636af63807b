use Rattle.std.proofs.Common.{◌∙◌, ◌+◌, drop, ap, arith, sym}
use Rattle.std.proofs.lemmas.List.{drop_all}
use Rattle.jc_text.proofs.Sending.{all_sent, none_sent, part_sent}
use Rattle.jc_classes.specs.Lent.{reference_lent}
use Rattle.jc_resolve.specs.Answers.{answer_of}
use Rattle.jc_report.specs.PartText.{answer_lines}
use Rattle.jc_report.proofs.lines.AnswerLines.{lines_next, lines_past, no_more}
use Rattle.jc_report.proofs.reports.AnswersLeft.{next_answer}
use Rattle.jc_report.proofs.part_text.write_answers.Goals as goal

pub loop-number-init : goal.loop-number-init
loop-number-init g c = none_sent _ _ _ _

pub returns-in-None : goal.returns-in-None
returns-in-None g c = all_sent c.loop-number.invariant (lines_past c.args.facts.now.references (drop c.loop-number.number c.args.answers.now) c.loop-number.number (sym c.in-None.ensures))

pub loop-number-preserved : goal.loop-number-preserved
loop-number-preserved g c =
    let refs = c.args.facts.now.references in
    let answers = c.args.answers.now in
    let n = c.loop-number.number in
    let a = c.at.result in
    part_sent c.loop-number.invariant
    (ap (answer_lines (drop n refs)) (next_answer answers n a c.at.ensures) ∙ lines_next refs (drop (n + 1) answers) n (reference_lent c.in-Some.reference) (answer_of a) (sym c.in-Some.ensures))
    c.write_answer_line.ensures

pub returns : goal.returns
returns g c =
    all_sent c.loop-number.invariant
    (ap (answer_lines (drop c.loop-number.number c.args.facts.now.references)) (drop_all c.loop-number.number c.args.answers.now (omega (arith, c.loop-number-test.false, c.len-number-end.ensures))) ∙ no_more (drop c.loop-number.number c.args.facts.now.references))
