-- A map from rows, as a finite map from their keys.
use Rattle.std.specs.Prelude.{List, map}
use Rattle.std.specs.Borrow.{Bor}
use Rattle.jc_classes.specs.Names.{Name}
use Rattle.jc_report.specs.RequiredRows.{spelled}
use Rattle.jc_report.specs.declared.required_row.RequiredRow.{RequiredRow}

-- the entries, with the key of each row
abbrev pub keyed : {V : Type 0} → List (RequiredRow × V) → List (Name × V)
keyed entries = map (λ e. (spelled e.0, e.1)) entries

abbrev pub entry_lent : {V : Type 0} → Bor RequiredRow × Bor V → Name × V
entry_lent entry = (spelled entry.0.now, entry.1.now)
