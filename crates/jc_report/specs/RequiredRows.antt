-- The rows that a class requires, borrowed from its references.
use Rattle.std.specs.Prelude.{◌≡◌, ℕ, List, [], map, Option, None, Some, slice_get}
use Rattle.std.specs.List.{All}
use Rattle.jc_classes.specs.Facts.{Reference}
use Rattle.jc_classes.specs.Names.{Name}
use Rattle.jc_report.specs.ClassRows.{class_row, reference_row}
use Rattle.jc_report.specs.RowKeys.{row_key}
use Rattle.jc_report.specs.Rows as rows
use Rattle.jc_report.specs.declared.required_row.RequiredRow.{RequiredRow}

-- the row of a reference; for None, which is no reference, an empty row as a placeholder
abbrev pub row_of_some : Option Reference → rows.Row
row_of_some (Some reference) = reference_row reference
row_of_some None = class_row []

-- the row of the reference with this number, which is counted from 0
abbrev pub row_numbered : List Reference → ℕ → rows.Row
row_numbered references number = row_of_some (slice_get references number)

abbrev pub rows_numbered : List Reference → List ℕ → List rows.Row
rows_numbered references numbers = map (row_numbered references) numbers

abbrev pub row_required : RequiredRow → rows.Row
row_required row = row_numbered row.references row.number

-- each of the rows has this list of references, in which its number is looked up
abbrev pub AreOf : List Reference → List RequiredRow → Type 0
AreOf references required = All (λ (row : RequiredRow). row.references ≡ references) required

-- the row as a list of numbers, as `RowKeys` defines it
abbrev pub spelled : RequiredRow → Name
spelled row = row_key (row_required row)

abbrev pub spelled_all : List RequiredRow → List Name
spelled_all rows = map spelled rows
