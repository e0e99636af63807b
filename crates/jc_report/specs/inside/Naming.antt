-- Whether the file at a path has a class of a name.
use Rattle.std.specs.Prelude.{ℕ, Bool, false, List, Option, Some, None}
use Rattle.std.specs.FinMap as map
use Rattle.jc_report.specs.Files.{Files}
use Rattle.jc_report.specs.FileRows.{names}

abbrev pub names_there : Option (List ℕ) → List ℕ → Bool
names_there None name = false
names_there (Some bytes) name = names bytes name

-- there is a file at the path, and its class has this name
abbrev pub names_at : Files → List ℕ → List ℕ → Bool
names_at f path name = names_there (map.get f path) name
