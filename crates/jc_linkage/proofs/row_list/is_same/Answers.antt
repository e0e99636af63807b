use Rattle.std.proofs.Common.{◌≡◌, ◌∙◌, ℕ, List, sym}
use Rattle.std.proofs.lemmas.Bool.{eqb-true}
use Rattle.jc_classes.specs.Facts.{Reference}
use Rattle.jc_report.specs.RequiredRows.{row_numbered}
use Rattle.jc_report.specs.RowKeys.{row_key}
use Rattle.jc_linkage.proofs.required_rows.RowLists.{tied}
use Rattle.jc_linkage.proofs.row_list.is_same.Goals as goal

keyed : (a b : List Reference) (n m : ℕ) → a ≡ b → n ≡ m → row_key (row_numbered a n) ≡ row_key (row_numbered b m)
keyed a b n m e f = λ i. row_key (row_numbered (e i) (f i))

pub returns-then-is_like : goal.returns-then-is_like
returns-then-is_like c = λ same.
    keyed c.args.one.now.references c.args.other.now.references c.args.one.now.number c.args.other.now.number (c.requires c.if-is_like.true)
    (sym c.number.ensures ∙ eqb-true c.number.result c.number-then-is_like.result same ∙ c.number-then-is_like.ensures)

pub returns-else-is_like : goal.returns-else-is_like
returns-else-is_like c = λ same. tied c.args.one.now c.args.other.now (sym c.eq.ensures ∙ same)
