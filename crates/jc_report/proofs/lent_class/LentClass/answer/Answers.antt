-- What is found at the place of the index is what the references answer.
use Rattle.std.proofs.Common.{◌≡◌, ◌∙◌, ◌==◌, Option, None, Some, ap, option_map, slice_get, subst, sym}
use Rattle.std.specs.Prelude.{◌↔◌}
use Rattle.std.proofs.lemmas.Bool.{cond-false, cond-true, eq-eqb, ne_eqb}
use Rattle.jc_classes.specs.Resolution.{Answer}
use Rattle.jc_resolve.specs.Answers.{answer_of}
use Rattle.jc_report.specs.ClassAnswers.{HasAnswerAt}
use Rattle.jc_report.specs.ClassLent.{class_lent}
use Rattle.jc_report.specs.inside.ReferencePlaces.{answer_there}
use Rattle.jc_report.proofs.rows.AnswersByIndex.{found_by_index}
use Rattle.jc_report.proofs.lent_class.LentClass.answer.Goals as goal

pub returns-in_err-reference : goal.returns-in_err-reference
returns-in_err-reference c rises a =
    let refs = c.args.self.facts.now.references in
    let answers = c.args.self.part.now.answers in
    let place = c.place_of-number.result in
    let found = ap (option_map answer_of) c.from_residual.ensures
    ∙ ap (λ o. answer_there c.args.index o (slice_get answers place)) c.in_err-reference.ensures in
    subst (λ (o : Option Answer). (o ≡ Some a) ↔ HasAnswerAt (class_lent c.args.self) c.args.index a) (sym found)
    (found_by_index c.args.index refs answers place rises c.place_of-number.ensures a)

pub returns-then-reference-index : goal.returns-then-reference-index
returns-then-reference-index c rises a =
    let refs = c.args.self.facts.now.references in
    let answers = c.args.self.part.now.answers in
    let place = c.place_of-number.result in
    let index = c.in_ok-reference.reference.index in
    let found = c.numbered.ensures ∙ ap (λ xs. slice_get xs place) c.answers.ensures
    ∙ sym (cond-true (index == c.args.index) (slice_get answers place) None (eq-eqb index c.args.index c.if-reference-index.true))
    ∙ ap (λ o. answer_there c.args.index o (slice_get answers place)) c.in_ok-reference.ensures in
    subst (λ (o : Option Answer). (o ≡ Some a) ↔ HasAnswerAt (class_lent c.args.self) c.args.index a) (sym found)
    (found_by_index c.args.index refs answers place rises c.place_of-number.ensures a)

pub returns-else-reference-index : goal.returns-else-reference-index
returns-else-reference-index c rises a =
    let refs = c.args.self.facts.now.references in
    let answers = c.args.self.part.now.answers in
    let place = c.place_of-number.result in
    let index = c.in_ok-reference.reference.index in
    let found = sym (cond-false (index == c.args.index) (slice_get answers place) None (ne_eqb index c.args.index c.if-reference-index.false))
    ∙ ap (λ o. answer_there c.args.index o (slice_get answers place)) c.in_ok-reference.ensures in
    subst (λ (o : Option Answer). (o ≡ Some a) ↔ HasAnswerAt (class_lent c.args.self) c.args.index a) (sym found)
    (found_by_index c.args.index refs answers place rises c.place_of-number.ensures a)
