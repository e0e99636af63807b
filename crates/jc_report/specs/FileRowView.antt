-- The row of a file that a call returns, as data.
use Rattle.jc_report.specs.declared.file_row.FileRow.{FileRow}
use Rattle.jc_report.specs.declared.file_row.FileState.{FileState}
use Rattle.jc_report.specs.declared.file_row.FileState.TheVariants as lent
use Rattle.jc_report.specs.FileRows as rows

abbrev pub state_lent : FileState → rows.FileState
state_lent (lent.Class name) = rows.Class name.now
state_lent (lent.Shadowed name winner) = rows.Shadowed name.now winner.now
state_lent (lent.Unreadable refusal) = rows.Unreadable refusal

abbrev pub row_lent : FileRow → rows.FileRow
row_lent row = record { path = row.path.now; state = state_lent row.state }
