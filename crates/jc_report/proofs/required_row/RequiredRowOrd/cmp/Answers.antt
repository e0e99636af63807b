use Rattle.std.proofs.Common.{◌≡◌, ◌∙◌, Less, Equal, Greater, sym, ap}
use Rattle.std.specs.Ordering.{ordering_then}
use Rattle.jc_classes.specs.Names.{name_cmp}
use Rattle.jc_report.specs.RequiredRows.{row_required}
use Rattle.jc_report.specs.Rows.{Row, row_cmp}
use Rattle.jc_report.specs.inside.RowsOfClass.{cmp_in_class}
use Rattle.jc_report.proofs.row_keys.KeyOrder.{key_order}
use Rattle.jc_report.proofs.required_row.RequiredRowOrd.cmp.Goals as goal

-- rows whose classes differ stand as these do, and others as rows of one class
less : (a b : Row) → name_cmp a.class b.class ≡ Less → Less ≡ row_cmp a b
less a b e = sym (ap (λ o. ordering_then o (cmp_in_class a b)) e)

equal : (a b : Row) → name_cmp a.class b.class ≡ Equal → cmp_in_class a b ≡ row_cmp a b
equal a b e = sym (ap (λ o. ordering_then o (cmp_in_class a b)) e)

greater : (a b : Row) → name_cmp a.class b.class ≡ Greater → Greater ≡ row_cmp a b
greater a b e = sym (ap (λ o. ordering_then o (cmp_in_class a b)) e)

pub returns-in-Less : goal.returns-in-Less
returns-in-Less c =
    let one = row_required c.args.self.now in
    let two = row_required c.args.other.now in
    less one two (sym (λ i. name_cmp (c.class.ensures i) (c.class-2.ensures i)) ∙ sym c.in-Less.ensures) ∙ sym (key_order one two)

pub returns-in-Equal : goal.returns-in-Equal
returns-in-Equal c =
    let one = row_required c.args.self.now in
    let two = row_required c.args.other.now in
    c.cmp_in_class.ensures
    ∙ equal one two (sym (λ i. name_cmp (c.class.ensures i) (c.class-2.ensures i)) ∙ sym c.in-Equal.ensures)
    ∙ sym (key_order one two)

pub returns-in-Greater : goal.returns-in-Greater
returns-in-Greater c =
    let one = row_required c.args.self.now in
    let two = row_required c.args.other.now in
    greater one two (sym (λ i. name_cmp (c.class.ensures i) (c.class-2.ensures i)) ∙ sym c.in-Greater.ensures) ∙ sym (key_order one two)
