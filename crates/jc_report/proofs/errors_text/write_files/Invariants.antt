use Rattle.std.proofs.Common.{drop, map}
use Rattle.std.specs.List.{flat_map}
use Rattle.jc_text.proofs.Sending.{HasSent}
use Rattle.jc_report.specs.ErrorsText.{file_error, asked_lent}
use Rattle.jc_report.specs.FileRowView as lent
use Rattle.jc_report.proofs.errors_text.write_files.Given as goal

-- all lines but those of the files that are left
abbrev pub invariant-loop-row : goal.invariant-loop-row
invariant-loop-row g l =
    HasSent g.W.Output.written g.W.Output.failures l.fn.text l.text (flat_map (file_error (asked_lent l.asked)) (map lent.row_lent l.files))
    (flat_map (file_error (asked_lent l.asked)) (map lent.row_lent (drop l.row-index l.files)))
