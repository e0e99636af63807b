use Rattle.std.proofs.Common.{◌≤◌, length}
use Rattle.jc_resolve.specs.inside.Numbers.{AreNumbersBy}
use Rattle.jc_resolve.proofs.numbers_by_index.numbers_by_index.Given as goal

-- the table has those from the number on
abbrev pub invariant-loop-number : goal.invariant-loop-number
invariant-loop-number l = record {
  within : l.number ≤ length l.fn.facts.references;
  from : AreNumbersBy l.fn.facts.references l.number l.numbers.items;
}

abbrev pub decreases-loop-number : goal.decreases-loop-number
decreases-loop-number l = l.number
