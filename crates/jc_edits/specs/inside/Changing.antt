-- The classes that an edit of a file changes.
use Rattle.std.specs.Prelude.{◌≡◌, ℕ, Bool, true, false, List, Option, Some, None, option_map, option_and_then}
use Rattle.std.specs.Prelude.{Result, Ok, Err, if◌then◌else◌}
use Rattle.std.specs.FinMap as map
use Rattle.jc_input.specs.Changes.{Adds, Change, Removes, Replaces}
use Rattle.jc_view.specs.ClassFile.{ClassFile}
use Rattle.jc_view.specs.declared.parse_error.ParseError.{ParseError}
use Rattle.jc_view.specs.Outcome.{class_named, class_read}
use Rattle.jc_classes.specs.Facts.{Facts}
use Rattle.jc_classes.specs.FactsOf.{class_name, facts_of}
use Rattle.jc_classes.specs.Names.{Name}
use Rattle.jc_linkage.specs.Steps.{class_by, step_name}
use Rattle.jc_linkage.specs.declared.step.Step.{Step}
use Rattle.jc_report.specs.Files.{Files}
use Rattle.jc_report.specs.FileRows.{winner}
use Rattle.jc_report.specs.Reports.{facts_at}
use Rattle.jc_report.specs.Winners.{wins}
use Rattle.jc_edits.specs.Touched.{is_path}

-- the new bytes of the file, or none if it is removed
abbrev pub bytes_of : Change → Option (List ℕ)
bytes_of (Adds path bytes) = Some bytes
bytes_of (Replaces path bytes) = Some bytes
bytes_of (Removes path) = None

-- the edit adds a file
abbrev pub is_add : Change → Bool
is_add (Adds path bytes) = true
is_add (Replaces path bytes) = false
is_add (Removes path) = false

-- the facts of the class of this name in the file at a path, if the class is taken from there
abbrev pub won_as : Files → (path name : List ℕ) → ClassFile → Option Facts
won_as others path name c = if wins path (winner others name) then Some (facts_of path c) else None

abbrev pub won_by : Files → List ℕ → Result ClassFile ParseError → Option Facts
won_by others path (Ok c) = won_as others path (class_name c) c
won_by others path (Err refusal) = None

-- the facts of the class that is taken from these bytes at a path, beside the other files
abbrev pub won : Files → List ℕ → Option (List ℕ) → Option Facts
won others path bytes = option_and_then (λ b. won_by others path (class_read b)) bytes

abbrev pub lost_by : Files → List ℕ → Result (List ℕ) ParseError → Option Name
lost_by f path (Ok name) = if is_path (winner f name) path then Some name else None
lost_by f path (Err refusal) = None

-- the name of the class that is taken from the file at a path
abbrev pub lost : Files → List ℕ → Option Name
lost f path = option_and_then (λ b. lost_by f path (class_named b)) (map.get f path)

-- the facts are those of the class that is taken from these bytes at the path, if there are bytes
abbrev pub IsWon : Files → (path : List ℕ) → (bytes : Option (List ℕ)) → Option Facts → Type 0
IsWon f path bytes facts = facts ≡ won (map.remove f path) path bytes

-- after the change, the name has its class from the files other than the one at the path
abbrev pub Uncovers : Files → (path : List ℕ) → Option Step → Type 0
Uncovers f path step = (name : Name) → option_map step_name step ≡ Some name → class_by step ≡ facts_at (map.remove f path) name

-- the path from which the class is taken, among the files other than the one at the path
abbrev pub winner_but : Files → (path : List ℕ) → Name → Option (List ℕ)
winner_but f path name = winner (map.remove f path) name

-- what changes if the file at the path gets these bytes, or is removed
pub record AreChanges (f : Files) (path : List ℕ) (bytes : Option (List ℕ)) (step : Option Step) (facts : Option Facts) : Type 0 where
  pub put : IsWon f path bytes facts
  pub name : option_map step_name step ≡ lost f path
  pub class : Uncovers f path step
