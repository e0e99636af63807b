use Rattle.std.proofs.Common.{[], ◌∙◌, ap, cond, sym}
use Rattle.jc_text.proofs.Sending.{sends_equal, sends_nothing}
use Rattle.jc_report.specs.FileRowText.{row_text}
use Rattle.jc_report.specs.FileRowView as lent
use Rattle.jc_report.proofs.errors_text.write_file.Goals as goal

pub returns-then-is_wrong_file : goal.returns-then-is_wrong_file
returns-then-is_wrong_file g c =
    sends_equal (ap (λ b. cond b (row_text (lent.row_lent c.args.row.now)) []) (sym c.if-is_wrong_file.true ∙ c.is_wrong_file.ensures)) c.write_file_row.ensures

pub returns-else-is_wrong_file : goal.returns-else-is_wrong_file
returns-else-is_wrong_file g c =
    sends_equal (ap (λ b. cond b (row_text (lent.row_lent c.args.row.now)) []) (sym c.if-is_wrong_file.false ∙ c.is_wrong_file.ensures)) (sends_nothing _ _ _)
