use Rattle.std.proofs.Common.{[], ◌∙◌, ap, cond, sym}
use Rattle.jc_text.proofs.Sending.{sends_equal, sends_nothing}
use Rattle.jc_classes.specs.Lent.{reference_lent}
use Rattle.jc_resolve.specs.Answers.{answer_of}
use Rattle.jc_report.specs.ErrorsText.{answered_text}
use Rattle.jc_report.proofs.reference_errors.write_answer_error.Goals as goal

pub returns-then-is_listed : goal.returns-then-is_listed
returns-then-is_listed g c =
    let line = answered_text c.args.facts.now (reference_lent c.args.reference) c.args.user (answer_of c.args.answer) in
    sends_equal (ap (λ b. cond b line []) (sym c.if-is_listed.true ∙ c.is_listed.ensures)) c.write_answered.ensures

pub returns-else-is_listed : goal.returns-else-is_listed
returns-else-is_listed g c =
    let line = answered_text c.args.facts.now (reference_lent c.args.reference) c.args.user (answer_of c.args.answer) in
    sends_equal (ap (λ b. cond b line []) (sym c.if-is_listed.false ∙ c.is_listed.ensures)) (sends_nothing _ _ _)
