-- A required reference adds its row, and another adds none.
use Rattle.std.proofs.Common.{◌≡◌, ◌∙◌, ◌+◌, ◌++◌, ◌∷◌, List, arith, drop, sym, ap, subst}
use Rattle.std.proofs.lemmas.List.{drop_all}
use Rattle.jc_classes.specs.Lent.{reference_lent}
use Rattle.jc_report.specs.ClassRows.{reference_row, rows_required}
use Rattle.jc_report.specs.Rows.{Row}
use Rattle.jc_report.specs.inside.RowSets.{HoldSameRows}
use Rattle.jc_report.proofs.reports.AnswersLeft.{next_of_kind}
use Rattle.jc_report.proofs.rows.ReferenceRows.{left_required, left_resolved, no_answers, past_references}
use Rattle.jc_report.proofs.rows.SameRows.{same_rows_added, same_rows_end, same_rows_through}
use Rattle.jc_report.proofs.class_rows.push_required.Goals as goal
use Rattle.jc_report.proofs.class_rows.push_required.Goals.{then-is_required+in-Some+in_ok-insert-in-Some, else-is_required}

pub loop-number-preserved : goal.loop-number-preserved
loop-number-preserved c =
    let refs = c.args.facts.now.references in
    let answers = c.answers-answers.result.now in
    let all = c.args.rows.now ++ rows_required refs answers in
    let n = c.loop-number.number in
    let next = next_of_kind answers n c.kind.result c.kind.ensures in
    let a = next.answer in
    let rest = drop (n + 1) answers in
    let left = rows_required (drop (n + 1) refs) rest in
    let read : rows_required (drop n refs) (drop n answers) ≡ rows_required (drop n refs) (a ∷ rest) = ap (rows_required (drop n refs)) next.left in
    let required = c.is_required.ensures a next.kind_is in
    elim c.if-is_required.branch [
      | then-is_required+in-Some+in_ok-insert-in-Some w ↦
          let r = reference_lent w.in-Some.reference in
          let here : rows_required (drop n refs) (drop n answers) ≡ reference_row r ∷ left = read ∙ left_required refs n r (sym w.in-Some.ensures) a rest (required ∙ w.if-is_required.true) in
          let before = subst (λ (rows : List Row). HoldSameRows (c.loop-number.rows ++ rows) all) here c.loop-number.invariant in
          subst (λ (rows : List Row). HoldSameRows (rows ++ left) all) (sym w.rows-is)
          (same_rows_through _ _ all (same_rows_added c.loop-number.rows _ left _ (reference_row r) w.in_ok-insert-in-Some.ensures w.reference_row.ensures) before)
      | else-is_required w ↦
          subst (λ (rows : List Row). HoldSameRows (rows ++ left) all) (sym w.rows-is)
          (subst (λ (rows : List Row). HoldSameRows (c.loop-number.rows ++ rows) all) (read ∙ left_resolved refs n a rest (required ∙ w.if-is_required.false)) c.loop-number.invariant)
    ]

pub returns-in-None : goal.returns-in-None
returns-in-None c =
    let refs = c.args.facts.now.references in
    let n = c.loop-number.number in
    let answers = c.answers-answers.result.now in
    subst (λ (given : List _). HoldSameRows c.loop-number.rows (c.args.rows.now ++ rows_required refs given)) c.answers-answers.ensures
    (same_rows_end c.loop-number.rows _ _ (past_references refs (drop n answers) n (sym c.in-None.ensures)) c.loop-number.invariant)

pub returns : goal.returns
returns c =
    let refs = c.args.facts.now.references in
    let n = c.loop-number.number in
    let answers = c.answers-answers.result.now in
    let none = ap (rows_required (drop n refs)) (drop_all n answers (omega (arith, c.loop-number-test.false, c.len-number-end.ensures))) ∙ no_answers (drop n refs) in
    subst (λ (given : List _). HoldSameRows c.loop-number.rows (c.args.rows.now ++ rows_required refs given)) c.answers-answers.ensures
    (same_rows_end c.loop-number.rows _ _ none c.loop-number.invariant)
