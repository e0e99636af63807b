-- The files that have a class, as a map from names of classes to paths.
use Rattle.std.specs.Prelude.{◌≡◌, ◌≢◌, ℕ, Bool, false, ◌&&◌, ◌||◌, not, List, [], ◌∷◌}
use Rattle.std.specs.Prelude.{Option, Some, None, Result, Ok, Err}
use Rattle.std.specs.FinMap as map
use Rattle.std.specs.FinSet as set
use Rattle.jc_base.specs.Bytes.{bytes_cmp, same_bytes}
use Rattle.jc_view.specs.declared.parse_error.ParseError.{ParseError}
use Rattle.jc_view.specs.Outcome.{class_named}
use Rattle.jc_report.specs.Files.{Files}
use Rattle.jc_report.specs.FileRows.{FileState, Unreadable, FileRow, names, state_by}
use Rattle.jc_report.specs.inside.Naming.{names_at}

-- the paths of the files that have a class
abbrev pub Paths : Type 0
Paths = set.FinSet bytes_cmp

-- these paths, by the name of the class
abbrev pub PathsByName : Type 0
PathsByName = map.FinMap bytes_cmp Paths

-- each name has at least one path
abbrev pub NoneEmpty : PathsByName → Type 0
NoneEmpty claims = (name : List ℕ) → map.get claims name ≢ Some map.empty

abbrev pub has_path : Option Paths → List ℕ → Bool
has_path None path = false
has_path (Some paths) path = map.contains_key paths path

-- the map says that the file at the path has the class
abbrev pub has_claim : PathsByName → List ℕ → List ℕ → Bool
has_claim claims name path = has_path (map.get claims name) path

abbrev pub first_of : List (List ℕ) → Option (List ℕ)
first_of [] = None
first_of (path ∷ paths) = Some path

abbrev pub first_path : Option Paths → Option (List ℕ)
first_path None = None
first_path (Some paths) = first_of (map.keys paths)

-- the least of the paths of a class
abbrev pub first_claim : PathsByName → List ℕ → Option (List ℕ)
first_claim claims name = first_path (map.get claims name)

-- the claims are those of the files
abbrev pub AreClaims : PathsByName → Files → Type 0
AreClaims claims f = (name path : List ℕ) → has_claim claims name path ≡ names_at f path name

-- ---- claims that are added, and that are removed

abbrev pub claim_of : (name path : List ℕ) → (n p : List ℕ) → Bool
claim_of name path n p = same_bytes n name && same_bytes p path

-- the claim of the class in these bytes
abbrev pub claim_at : (path bytes : List ℕ) → (n p : List ℕ) → Bool
claim_at path bytes n p = same_bytes p path && names bytes n

-- the claim of the class in the old bytes, if the new ones do not have the class
abbrev pub stale_claim : (path before now : List ℕ) → (n p : List ℕ) → Bool
stale_claim path before now n p = same_bytes p path && (names before n && not (names now n))

abbrev pub AddsClaim : (these : List ℕ → List ℕ → Bool) → (old new : PathsByName) → Type 0
AddsClaim these old new = (n p : List ℕ) → has_claim new n p ≡ (these n p || has_claim old n p)

abbrev pub TakesClaim : (these : List ℕ → List ℕ → Bool) → (old new : PathsByName) → Type 0
TakesClaim these old new = (n p : List ℕ) → has_claim new n p ≡ (not (these n p) && has_claim old n p)

-- ---- rows by the claims

abbrev pub claimed_state : PathsByName → List ℕ → Result (List ℕ) ParseError → FileState
claimed_state claims path (Ok name) = state_by path name (first_claim claims name)
claimed_state claims path (Err refusal) = Unreadable refusal

abbrev pub claimed_row : PathsByName → List ℕ × List ℕ → FileRow
claimed_row claims file = record { path = file.0; state = claimed_state claims file.0 (class_named file.1) }
