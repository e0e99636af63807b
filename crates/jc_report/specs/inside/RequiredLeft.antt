-- The rows that a class requires, by the numbers of its references.
use Rattle.std.specs.Prelude.{ℕ, List, drop, Option, Some, None, slice_get, if◌then◌else◌}
use Rattle.jc_classes.specs.Facts.{Reference}
use Rattle.jc_classes.specs.Resolution.{Answer}
use Rattle.jc_report.specs.ClassRows.{is_required, reference_row, rows_required}
use Rattle.jc_report.specs.Rows.{Row}

abbrev pub row_if : Option Reference → Option Answer → Option Row
row_if None answer = None
row_if (Some r) None = None
row_if (Some r) (Some a) = if is_required a then Some (reference_row r) else None

-- the row of a reference, which is given by its number, if it is required
abbrev pub row_at : List Reference → List Answer → ℕ → Option Row
row_at references answers number = row_if (slice_get references number) (slice_get answers number)

-- the rows of the references from a number on
abbrev pub rows_from : List Reference → List Answer → ℕ → List Row
rows_from references answers number = rows_required (drop number references) (drop number answers)
