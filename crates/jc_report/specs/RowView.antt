-- The row of `[provided]` or `[required]` that a call returns, as data.
use Rattle.jc_report.specs.Rows as rows
use Rattle.jc_report.specs.declared.row.Row.{Row}

abbrev pub row_lent : Row → rows.Row
row_lent row = record { class = row.class.now; kind = row.kind; key = record { name = row.name.now; descriptor = row.descriptor.now } }
