-- What is done with the list that an iterator returns.
use Rattle.std.specs.Prelude.{ℕ, List, Option}
use Rattle.std.specs.Iterator.{AlwaysYields}
use Rattle.std.specs.List.{flat_map}
use Rattle.jc_report.specs.ReportText.{name_line}
use Rattle.jc_report.specs.Reports.{Class, circular_names}

-- the statement holds of the list that the iterator returns, seen through `view`; `next` says what it returns next
abbrev pub ForGiven : {S A B : Type 0} (next : S → Option A → S → Type 0) (view : A → B) (it : S) → (List B → Type 0) → Type 0
ForGiven {B = B} next view it Told = (all : List B) → AlwaysYields next view it all → Told all

-- the lines of the circular classes
abbrev pub circular_lines : List Class → List ℕ
circular_lines classes = flat_map name_line (circular_names classes)
