-- Sorted rows of a class, and their update for other reference numbers.
use Rattle.std.specs.Prelude.{◌≡◌, ℕ, Bool, true, false, List, map, Option, Some, slice_index_or}
use Rattle.std.specs.List.{Contains, filter}
use Rattle.std.specs.List.Sorted.{IsStrictlySortedBy}
use Rattle.jc_classes.specs.Facts.{Reference}
use Rattle.jc_classes.specs.NameLists.{has}
use Rattle.jc_classes.specs.Names.{Name, name_cmp}
use Rattle.jc_report.specs.RequiredRows.{AreOf, rows_numbered, spelled_all}
use Rattle.jc_report.specs.RowKeys.{row_key}
use Rattle.jc_report.specs.declared.required_row.RequiredRow.{RequiredRow}

-- the rows are sorted, and belong to the references
pub record IsRowList (references : Option (List Reference)) (rows : List RequiredRow) : Type 0 where
  pub rises : IsStrictlySortedBy name_cmp (spelled_all rows)
  pub of : (own : List Reference) → references ≡ Some own → AreOf own rows

-- the rows of the references with these numbers, sorted, each once
pub record AreInOrder (references : List Reference) (numbers : List ℕ) (rows : List RequiredRow) : Type 0 where
  pub rises : IsStrictlySortedBy name_cmp (spelled_all rows)
  pub of : AreOf references rows
  pub same : (key : Name) → has (spelled_all rows) key ≡ has (map row_key (rows_numbered references numbers)) key

-- both lists are rows of the same references
pub record ShareReferences (rows others : List RequiredRow) : Type 0 where
  pub references : List Reference
  pub own : AreOf references rows
  pub other : AreOf references others

-- ---- rows by their numbers

-- the rows that pass a test, which only rows with these numbers pass
pub record Stay (rows : List RequiredRow) (numbers : List ℕ) (kept : List RequiredRow) : Type 0 where
  pub test : RequiredRow → Bool
  pub passed : kept ≡ filter test rows
  pub sound : (row : RequiredRow) → test row ≡ true → Contains numbers row.number

-- a row has the number
abbrev pub IsThere : List RequiredRow → ℕ → Type 0
IsThere rows n = Contains (map (λ (row : RequiredRow). row.number) rows) n

abbrev pub is_marked : List Bool → ℕ → Bool
is_marked marks n = slice_index_or marks n false

-- only these numbers are marked
abbrev pub AreMarks : List ℕ → List Bool → Type 0
AreMarks numbers marks = (n : ℕ) → is_marked marks n ≡ true → Contains numbers n
