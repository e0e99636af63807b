-- The state of a file, by the tree.
use Rattle.std.specs.Prelude.{◌≡◌, ℕ, List, Some, Result}
use Rattle.std.specs.FinMap as map
use Rattle.jc_view.specs.declared.parse_error.ParseError.{ParseError}
use Rattle.jc_view.specs.Outcome.{class_named}
use Rattle.jc_report.specs.Files.{Files}
use Rattle.jc_report.specs.FileRows.{FileState, state_of}
use Rattle.jc_report.specs.Trees.{IsTree, Tree}

-- the state of the file at a path with this class or this refusal, for all files that the tree may have
abbrev pub IsStateIn : Tree → List ℕ → Result (List ℕ) ParseError → FileState → Type 0
IsStateIn tree path outcome state =
    (f : Files) (bytes : List ℕ) → IsTree f tree → map.get f path ≡ Some bytes → outcome ≡ class_named bytes
    → state ≡ state_of f path outcome
