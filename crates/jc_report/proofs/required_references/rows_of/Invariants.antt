use Rattle.std.proofs.Common.{◌≡◌, map, take}
use Rattle.jc_report.specs.RequiredRows.{AreOf, row_required, rows_numbered}
use Rattle.jc_report.proofs.required_references.rows_of.Given as goal

abbrev pub invariant-loop-number : goal.invariant-loop-number
invariant-loop-number l = record {
  rows : map row_required l.rows.items ≡ rows_numbered l.references (take l.number-index l.numbers);
  of : AreOf l.references l.rows.items;
}
