use Rattle.std.proofs.Common.{◌≡◌, ◌∙◌, ◌+◌, ◌++◌, [], ap, arith, length, rules, sym}
use Rattle.std.specs.Option.{option_to_list}
use Rattle.jc_report.specs.inside.RequiredLeft.{rows_from}
use Rattle.jc_report.proofs.rows.RequiredLeft.{none_from, one_more}
use Rattle.jc_report.proofs.required_rows.RequiredRowsIterator.next.Goals as goal

pub returns-in-Some-clause-steps : goal.returns-in-Some-clause-steps
returns-in-Some-clause-steps c =
    let refs = c.loop-self.self-inside.facts.now.references in
    let answers = c.loop-self.self-inside.answers.now in
    let n = c.loop-self.self-inside.number in
    sym c.self.view_is ∙ sym c.loop-self.invariant ∙ one_more refs answers n
    ∙ ap (λ o. option_to_list o ++ rows_from refs answers (n + 1)) (sym c.in-Some.ensures)

pub returns-in-Some-clause-goes : goal.returns-in-Some-clause-goes
returns-in-Some-clause-goes c =
    let refs = c.loop-self.self-inside.facts.now.references in
    let answers = c.loop-self.self-inside.answers.now in
    let n = c.loop-self.self-inside.number in
    let shorter = ap length (sym c.self.view_is ∙ sym c.loop-self.invariant ∙ one_more refs answers n
    ∙ ap (λ o. option_to_list o ++ rows_from refs answers (n + 1)) (sym c.in-Some.ensures)) in search rules

pub loop-self-preserved : goal.loop-self-preserved
loop-self-preserved c =
    let refs = c.loop-self.self-inside.facts.now.references in
    let answers = c.loop-self.self-inside.answers.now in
    let n = c.loop-self.self-inside.number in
    sym (one_more refs answers n ∙ ap (λ o. option_to_list o ++ rows_from refs answers (n + 1)) (sym c.in_default.ensures))
    ∙ c.loop-self.invariant

pub returns-clause-steps : goal.returns-clause-steps
returns-clause-steps c =
    let refs = c.loop-self.self-inside.facts.now.references in
    let answers = c.loop-self.self-inside.answers.now in
    let n = c.loop-self.self-inside.number in
    let none : rows_from refs answers n ≡ [] = none_from refs answers n (omega (arith, c.loop-self-test.false, c.len.ensures)) in
    (sym c.self.view_is ∙ sym c.loop-self.invariant ∙ none, none)
