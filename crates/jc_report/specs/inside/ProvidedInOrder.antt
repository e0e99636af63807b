-- The rows that classes provide, in the order of the iterator.
use Rattle.std.specs.Prelude.{List, [], ◌∷◌, Option, Some, None}
use Rattle.std.specs.declared.cmp.Ordering.{Ordering}
use Rattle.std.specs.declared.cmp.Ordering.TheVariants.{Less, Equal, Greater}
use Rattle.std.specs.List.{flat_map}
use Rattle.jc_report.specs.ClassRows.{provided_rows}
use Rattle.jc_report.specs.Reports.{Class}
use Rattle.jc_report.specs.Rows.{Row, row_cmp}

-- a row is put before the first row, is equal to it, or is put after it
abbrev pub placed_by : Ordering → Row → Row → List Row → List Row → List Row
placed_by Less row first rest further = row ∷ first ∷ rest
placed_by Equal row first rest further = first ∷ rest
placed_by Greater row first rest further = first ∷ further

-- sorted rows with one more row at its place
abbrev pub put : Row → List Row → List Row
put row [] = row ∷ []
put row (first ∷ rest) = placed_by (row_cmp row first) row first rest (put row rest)

-- the rows sorted, each once
abbrev pub in_order : List Row → List Row
in_order [] = []
in_order (row ∷ rows) = put row (in_order rows)

-- the rows that each class provides, sorted within each class
abbrev pub provided_in : List Class → List Row
provided_in classes = flat_map (λ c. in_order (provided_rows c.facts c.part)) classes

abbrev pub rows_left : Option (List Row) → List Row
rows_left None = []
rows_left (Some rows) = rows
