-- The file from which a class is taken, if several files have a class of its name.
use Rattle.std.specs.Prelude.{◌≡◌, ◌≢◌, ℕ, Bool, true, List, Option, Some, None, Ok}
use Rattle.std.specs.FinMap as map
use Rattle.std.specs.declared.cmp.Ordering.TheVariants.{Less}
use Rattle.jc_base.specs.Bytes.{bytes_cmp}
use Rattle.jc_view.specs.Outcome.{class_named}
use Rattle.jc_classes.specs.Names.{name_less}
use Rattle.jc_report.specs.Files.{Files}

-- the file at the path names this class: there is a file, its bytes are readable, and its class has this name
abbrev pub NamesAt : Files → List ℕ → List ℕ → Type 0
NamesAt f path name = (bytes : List ℕ) × (map.get f path ≡ Some bytes) × (class_named bytes ≡ Ok name)

-- the file at the path names the class, and each other file that names it has a greater path
abbrev pub IsWinner : Files → List ℕ → List ℕ → Type 0
IsWinner f name path =
    NamesAt f path name × ((other : List ℕ) → NamesAt f other name → other ≢ path → bytes_cmp path other ≡ Less)

-- the file at the path wins a class that the file at the path `other` names too; a file without another wins
abbrev pub wins : List ℕ → (other : Option (List ℕ)) → Bool
wins path None = true
wins path (Some other) = name_less path other
