-- What the report says of each file, and which file is the winner of a class.
use Rattle.std.specs.Prelude.{ℕ, Bool, true, false, List, [], ◌∷◌, map, Option, Some, None, Result, Ok, Err, if◌then◌else◌}
use Rattle.std.specs.FinMap.{entries}
use Rattle.jc_base.specs.Bytes.{same_bytes}
use Rattle.jc_view.specs.declared.parse_error.ParseError.{ParseError}
use Rattle.jc_view.specs.Outcome.{class_named}
use Rattle.jc_report.specs.Files.{Files}

-- a file with this outcome of reading is readable, and its class has this name
abbrev pub names_by : Result (List ℕ) ParseError → List ℕ → Bool
names_by (Ok named) name = same_bytes named name
names_by (Err e) name = false

-- the bytes are a readable class file, and its class has this name
abbrev pub names : List ℕ → List ℕ → Bool
names bytes name = names_by (class_named bytes) name

-- the path of the first of these files whose class has this name; each file is a path and its bytes
abbrev pub first_naming : List (List ℕ × List ℕ) → List ℕ → Option (List ℕ)
first_naming [] name = None
first_naming (file ∷ files) name = if names file.1 name then Some file.0 else first_naming files name

-- the path of the winner of this class. It is the least path of the files that name the class, as the law
-- `winners_are_least` says
abbrev pub winner : Files → List ℕ → Option (List ℕ)
winner f name = first_naming (entries f) name

-- what a file is: the winner of the class that it names, shadowed by the file at the path `winner`, or unreadable
pub data FileState : Type 0 where
  Class : (name : List ℕ) → FileState
  Shadowed : (name winner : List ℕ) → FileState
  Unreadable : (refusal : ParseError) → FileState

pub record FileRow : Type 0 where
  pub path : List ℕ
  pub state : FileState

-- the state of the file at a path whose class has this name, by the path of the winner of that class
abbrev pub state_by : List ℕ → List ℕ → Option (List ℕ) → FileState
state_by path name None = Class name
state_by path name (Some winner) = if same_bytes winner path then Class name else Shadowed name winner

-- the state of the file at a path, by the outcome of reading it: the name of its class, or a refusal
abbrev pub state_of : Files → List ℕ → Result (List ℕ) ParseError → FileState
state_of f path (Ok name) = state_by path name (winner f name)
state_of f path (Err refusal) = Unreadable refusal

-- the row of a file, which is given as its path and its bytes
abbrev pub row_of : Files → List ℕ × List ℕ → FileRow
row_of f file = record { path = file.0; state = state_of f file.0 (class_named file.1) }

-- one row for each file, in ascending order of path
abbrev pub rows : Files → List FileRow
rows f = map (row_of f) (entries f)

abbrev pub is_unreadable_state : FileState → Bool
is_unreadable_state (Class name) = false
is_unreadable_state (Shadowed name winner) = false
is_unreadable_state (Unreadable refusal) = true

abbrev pub is_unreadable : FileRow → Bool
is_unreadable row = is_unreadable_state row.state
