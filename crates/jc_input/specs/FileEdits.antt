-- Edits of files: why one is refused, and the files after it.
use Rattle.std.specs.Prelude.{ℕ, ◌==◌, nat_lt, ◌||◌, List, length, Option, Some, None, if◌then◌else◌}
use Rattle.std.specs.FinMap as map
use Rattle.jc_report.specs.Files.{Files}
use Rattle.jc_input.specs.Changes.{Change, Adds, Replaces, Removes}
use Rattle.jc_input.specs.declared.edit.EditError.{EditError}
use Rattle.jc_input.specs.declared.edit.EditError.TheVariants as errors

-- a path that is empty or over 4,096 bytes is refused
abbrev pub path_refusal : List ℕ → Option EditError
path_refusal path = if length path == 0 || nat_lt 4096 (length path) then Some errors.BadPath else None

-- a file over 16,777,216 bytes (16 MiB) is refused
abbrev pub size_refusal : List ℕ → Option EditError
size_refusal bytes = if nat_lt 16777216 (length bytes) then Some errors.TooLarge else None

-- a file that is there cannot be added
abbrev pub there_refusal : Files → List ℕ → Option EditError
there_refusal f path = if map.contains_key f path then Some errors.AlreadyThere else None

-- a file that is not there cannot be replaced or removed
abbrev pub missing_fault : Files → List ℕ → Option EditError
missing_fault f path = if map.contains_key f path then None else Some errors.NoSuchFile

-- a file can be added only to fewer than 65,535
abbrev pub room_beside : ℕ → Option EditError
room_beside count = if nat_lt count 65535 then None else Some errors.TooMany

abbrev pub room_refusal : Files → Option EditError
room_refusal f = room_beside (map.len f)

-- the first of two refusals that applies
infixr 10 ◌or_else◌
abbrev pub ◌or_else◌ : Option EditError → Option EditError → Option EditError
None or_else second = second
(Some fault) or_else second = Some fault

-- the first refusal that applies
abbrev pub judge : Files → Change → Option EditError
judge f (Adds path bytes) = path_refusal path or_else (there_refusal f path or_else (size_refusal bytes or_else room_refusal f))
judge f (Replaces path bytes) = path_refusal path or_else (missing_fault f path or_else size_refusal bytes)
judge f (Removes path) = path_refusal path or_else missing_fault f path

-- the files after an edit that was not refused
abbrev pub after : Files → Change → Files
after f (Adds path bytes) = map.insert f path bytes
after f (Replaces path bytes) = map.insert f path bytes
after f (Removes path) = map.remove f path
