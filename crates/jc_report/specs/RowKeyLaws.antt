-- The law of the keys of rows.
use Rattle.std.specs.Prelude.{◌≡◌}
use Rattle.jc_base.specs.Bytes.{bytes_cmp}
use Rattle.jc_report.specs.RowKeys.{row_key}
use Rattle.jc_report.specs.Rows.{Row, row_cmp}

-- two rows compare as their keys do, number by number
abbrev pub KeysKeepOrder : Type 0
KeysKeepOrder = (a b : Row) → row_cmp a b ≡ bytes_cmp (row_key a) (row_key b)
