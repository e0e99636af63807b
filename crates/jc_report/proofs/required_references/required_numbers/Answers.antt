-- A required reference adds its row, and another adds none.
use Rattle.std.proofs.Common.{◌≡◌, ◌∙◌, ◌+◌, ◌++◌, ◌∷◌, Some, arith, drop, slice_get, sym, ap, append-nil}
use Rattle.std.proofs.lemmas.List.{drop_all}
use Rattle.jc_classes.specs.Lent.{reference_lent}
use Rattle.jc_report.specs.ClassRows.{reference_row, rows_required}
use Rattle.jc_report.specs.RequiredRows.{row_numbered, row_of_some}
use Rattle.jc_report.specs.RequiredRows.{rows_numbered}
use Rattle.jc_report.proofs.reports.AnswersLeft.{next_of_kind}
use Rattle.jc_report.proofs.rows.ReferenceRows.{added, left_required, left_resolved, no_answers, past_references}
use Rattle.jc_report.proofs.required_references.required_numbers.Goals as goal
use Rattle.jc_report.proofs.required_references.required_numbers.Goals.{then-is_required+in-Some+in_ok-push-in-Some, else-is_required}

pub loop-number-preserved : goal.loop-number-preserved
loop-number-preserved c =
    let refs = c.args.references.now in
    let answers = c.answers-answers.result.now in
    let n = c.loop-number.number in
    let next = next_of_kind answers n c.kind.result c.kind.ensures in
    let a = next.answer in
    let rest = drop (n + 1) answers in
    let left = rows_required (drop (n + 1) refs) rest in
    let read : rows_required (drop n refs) (drop n answers) ≡ rows_required (drop n refs) (a ∷ rest) = ap (rows_required (drop n refs)) next.left in
    let required = c.is_required.ensures a next.kind_is in
    elim c.if-is_required.branch [
      | then-is_required+in-Some+in_ok-push-in-Some w ↦
          let r = reference_lent w.in-Some.field-0 in
          let at : slice_get refs n ≡ Some r = sym w.in-Some.ensures in
          ap (λ numbers. rows_numbered refs numbers.items ++ left) w.numbers-is
          ∙ added (row_numbered refs) _ _ _ (reference_row r) left w.in_ok-push-in-Some.ensures.items (ap row_of_some at)
          ∙ ap (λ xs. rows_numbered refs c.loop-number.numbers.items ++ xs) (sym (read ∙ left_required refs n r at a rest (required ∙ w.if-is_required.true)))
          ∙ c.loop-number.invariant
      | else-is_required w ↦
          ap (λ numbers. rows_numbered refs numbers.items ++ left) w.numbers-is
          ∙ ap (λ xs. rows_numbered refs c.loop-number.numbers.items ++ xs) (sym (read ∙ left_resolved refs n a rest (required ∙ w.if-is_required.false)))
          ∙ c.loop-number.invariant
    ]

pub returns-in-None : goal.returns-in-None
returns-in-None c =
    let refs = c.args.references.now in
    let n = c.loop-number.number in
    let left = drop n c.answers-answers.result.now in
    sym (append-nil _)
    ∙ ap (λ xs. rows_numbered refs c.loop-number.numbers.items ++ xs) (sym (past_references refs left n (sym c.in-None.ensures)))
    ∙ c.loop-number.invariant
    ∙ ap (rows_required refs) c.answers-answers.ensures

pub returns : goal.returns
returns c =
    let refs = c.args.references.now in
    let n = c.loop-number.number in
    let answers = c.answers-answers.result.now in
    sym (append-nil _)
    ∙ ap (λ xs. rows_numbered refs c.loop-number.numbers.items ++ xs) (sym (ap (rows_required (drop n refs)) (drop_all n answers (omega (arith, c.loop-number-test.false, c.len-number-end.ensures))) ∙ no_answers (drop n refs)))
    ∙ c.loop-number.invariant
    ∙ ap (rows_required refs) c.answers-answers.ensures
