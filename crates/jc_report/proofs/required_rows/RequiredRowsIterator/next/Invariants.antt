-- the rows that are left stay the same
use Rattle.std.proofs.Common.{◌≡◌, ◌-◌, length}
use Rattle.jc_report.specs.inside.RequiredLeft.{rows_from}
use Rattle.jc_report.proofs.required_rows.RequiredRowsIterator.next.Given as goal

abbrev pub invariant-loop-self : goal.invariant-loop-self
invariant-loop-self l =
    rows_from l.self-inside.facts.now.references l.self-inside.answers.now l.self-inside.number
    ≡ rows_from l.initial.self-inside.facts.now.references l.initial.self-inside.answers.now l.initial.self-inside.number

abbrev pub decreases-loop-self : goal.decreases-loop-self
decreases-loop-self l = length l.self-inside.answers.now - l.self-inside.number
