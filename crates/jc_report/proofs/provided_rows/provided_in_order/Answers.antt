-- A class that provides none gives none.
use Rattle.std.proofs.Common.{◌≡◌, ◌∙◌, ◌∷◌, List, sym, ap, subst}
use Rattle.std.specs.List.{Contains}
use Rattle.jc_report.specs.ClassRows.{class_row, provided_rows}
use Rattle.jc_report.specs.Rows.{AreRows, Row}
use Rattle.jc_report.specs.inside.MemberRows.{open_rows}
use Rattle.jc_report.proofs.rows.ProvidedInOrder.{none_in_order, rows_in_order}
use Rattle.jc_report.proofs.provided_rows.provided_in_order.Goals as goal

pub returns-then-provides : goal.returns-then-provides
returns-then-provides c =
    let f = c.args.facts.now in
    let p = c.args.part.now in
    let fields = c.field_order.result.now in
    let methods = c.method_order.result.now in
    let rest = open_rows f fields methods in
    let all : c.rows_by.result ≡ class_row f.name ∷ rest = c.rows_by.ensures ∙ ap (λ row. row ∷ rest) (c.class_row.ensures ∙ ap class_row c.name.ensures) in
    subst (λ (rows : List Row). AreRows rows (Contains (provided_rows f p))) (sym all)
    (rows_in_order f fields methods c.field_order.ensures c.method_order.ensures p (sym c.provides.ensures ∙ c.if-provides.true))

pub returns-else-provides : goal.returns-else-provides
returns-else-provides c =
    let f = c.args.facts.now in
    let p = c.args.part.now in
    subst (λ (rows : List Row). AreRows rows (Contains (provided_rows f p))) (sym c.rows_by-else-provides.ensures)
    (none_in_order f p (sym c.provides.ensures ∙ c.if-provides.false))
