-- The rows of a class are those that stand for it among the rows that are left.
use Rattle.std.proofs.Common.{◌≡◌, ◌∙◌, ◌++◌, List, ap, sym}
use Rattle.std.specs.List.{Contains}
use Rattle.jc_report.specs.ClassRows.{provided_rows}
use Rattle.jc_report.specs.Rows.{Row}
use Rattle.jc_report.proofs.rows.RowsAreOne.{are_rows_one}
use Rattle.jc_report.specs.inside.ProvidedInOrder.{in_order, provided_in}
use Rattle.jc_report.proofs.reports.ProvidedByClass.{are_in_order}
use Rattle.jc_report.proofs.provided.ProvidedIterator.next.Goals as goal

pub loop-row-preserved : goal.loop-row-preserved
loop-row-preserved g c =
    let class = c.in_ok-class.class in
    let gives = provided_rows class.facts.now class.part.now in
    let rest = provided_in (g.C.ClassesLeft.left c.next_class.new.self) in
    let own : c.provided_in_order.result ≡ in_order gives = are_rows_one (Contains gives) c.provided_in_order.result (in_order gives) c.provided_in_order.ensures (are_in_order gives) in
    ap (λ (rows : List Row). rows ++ rest) own
    ∙ sym (ap provided_in c.in_ok-class.ensures)
    ∙ sym (ap (λ (rows : List Row). rows ++ provided_in (g.C.ClassesLeft.left c.loop-row.self-inside.classes)) c.in_default.ensures.0)
    ∙ c.loop-row.invariant
