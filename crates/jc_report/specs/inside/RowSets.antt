-- Lists with the same rows, in any order and with any repetitions.
use Rattle.std.specs.Prelude.{◌↔◌, List}
use Rattle.std.specs.List.{Contains}
use Rattle.jc_report.specs.Rows.{Row}

abbrev pub HoldSameRows : List Row → List Row → Type 0
HoldSameRows xs ys = (row : Row) → Contains xs row ↔ Contains ys row
