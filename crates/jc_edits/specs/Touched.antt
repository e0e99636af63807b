-- The names that an edit touches, and what the edit costs.
use Rattle.std.specs.Prelude.{◌≡◌, ◌↔◌, ℕ, Bool, Decides, true, false, ◌&&◌, ◌||◌, not, List, Option, Some, None, is_some}
use Rattle.jc_base.specs.Bytes.{same_bytes}
use Rattle.jc_classes.specs.Laws.{Differ, Hits}
use Rattle.jc_classes.specs.Names.{Name}
use Rattle.jc_classes.specs.Parts.{Reach}
use Rattle.jc_classes.specs.Worlds.{World}
use Rattle.jc_link.specs.Meters.{Counts}
use Rattle.jc_linkage.specs.Affected.{IsCounted}
use Rattle.jc_report.specs.Files.{Files}
use Rattle.jc_report.specs.FileRows.{winner}
use Rattle.jc_report.specs.Reports.{facts_at, world_of}
use Rattle.jc_classes.specs.Loading.{same_bool}
use Rattle.jc_input.specs.Changes.{Change, EditChange, OfFiles, path_of}
use Rattle.jc_input.specs.FileEdits.{after}
use Rattle.jc_link.specs.Prefixes.{is_covered}
use Rattle.jc_link.specs.Tables.{or_built_in}
use Rattle.jc_edits.specs.Edits.{after_edit}
use Rattle.jc_edits.specs.SessionState.{Contents, SessionState, counts_in, contents_of}

-- the files have a class of this name
abbrev pub gives : Files → Name → Bool
gives f name = is_some (facts_at f name)

-- there is a path, and it is this one
abbrev pub is_path : Option (List ℕ) → List ℕ → Bool
is_path None path = false
is_path (Some p) path = same_bytes p path

-- the class of this name is taken from the file at the path, before the edit or after it
abbrev pub is_taken : (old new : Files) (path : List ℕ) → Name → Bool
is_taken old new path name = is_path (winner old name) path || is_path (winner new name) path

-- the name has neither a class of the files nor the built-in one, and begins with a prefix of exactly one of the two
-- lists
abbrev pub switches : Files → (old new : List Name) → Name → Bool
switches f old new name =
    not (is_some (or_built_in (facts_at f name) name)) && not (same_bool (is_covered old name) (is_covered new name))

-- the name has the same class before and after the edit, and does not become outside or stop being outside
abbrev pub IsSameAt : (old new : Contents) → Name → Type 0
IsSameAt old new name = (facts_at old.files name ≡ facts_at new.files name) × (switches new.files old.prefixes new.prefixes name ≡ false)

-- the test is true of exactly the touched names: those that are not the same before and after the edit
abbrev pub TellsTouched : (old new : Contents) → (touched : Name → Bool) → Type 0
TellsTouched old new touched = (name : Name) → Decides (not (touched name)) (IsSameAt old new name)

abbrev pub world_at : Contents → World
world_at h = world_of h.files h.prefixes

-- A part was made for each class of the files after the edit whose reach has a touched name. Each name that these
-- classes reach was looked up once.
pub record IsCountedChange (old new : Contents) (before behind : Counts) : Type 0 where
  pub touched : Name → Bool
  pub tells : TellsTouched old new touched
  pub counted : IsCounted (gives new.files) (world_at new) touched before behind

-- an edit of a session from the state `old` to the state `new` was counted in this way
abbrev pub IsCountedStep : (old new : SessionState) → Type 0
IsCountedStep old new = IsCountedChange (contents_of old) (contents_of new) (counts_in old) (counts_in new)

-- ---- laws

-- the worlds before and after an edit agree at all names that it does not touch
abbrev pub EditsDiffer : Type 0
EditsDiffer = (h : Contents) (e : EditChange) (touched : Name → Bool) → TellsTouched h (after_edit h e) touched → Differ touched (world_at h) (world_at (after_edit h e))

-- the reach of a class has a touched name before the edit if and only if it has one after the edit
abbrev pub AffectedEitherWay : Type 0
AffectedEitherWay = (h : Contents) (e : EditChange) (touched : Name → Bool) → TellsTouched h (after_edit h e) touched
    → (d : Name) → Hits touched (world_at h) d ↔ Hits touched (world_at (after_edit h e)) d

-- if an edit of a file touches a name, the class of the name is taken from that file before or after the edit
abbrev pub TouchedAreTaken : Type 0
TouchedAreTaken = (h : Contents) (change : Change) (touched : Name → Bool) → TellsTouched h (after_edit h (OfFiles change)) touched
    → (name : Name) → touched name ≡ true → is_taken h.files (after h.files change) (path_of change) name ≡ true

-- the reach of a class does not depend on the outside prefixes
abbrev pub ReachStays : Type 0
ReachStays = (f : Files) (old new : List Name) (d n : Name) → Reach (world_of f old) d n → Reach (world_of f new) d n
