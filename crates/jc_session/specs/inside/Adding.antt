-- The results of the private functions that add files to a tree.
use Rattle.std.specs.Prelude.{◌≡◌, ℕ, Bool, List, [], Option, Result, Ok, Err}
use Rattle.std.specs.FinMap as map
use Rattle.jc_report.specs.Files.{Files}
use Rattle.jc_report.specs.Trees.{IsTree, Tree}
use Rattle.jc_session.specs.declared.tree_check.CheckError.{CheckError}
use Rattle.jc_session.specs.declared.tree_check.CheckError.TheVariants as errors
use Rattle.jc_session.specs.declared.tree_check.CheckForm.{CheckForm}
use Rattle.jc_session.specs.Checks.{Added, All, Answer, AreAdded, CheckFault, ChecksAs, GivesAnswers, Refused, Unread, added, answered_add}
use Rattle.jc_input.specs.Sources.{SourceAnswers}

-- the error says why not all files were added
abbrev pub StopsAs : Added → CheckError → Type 0
StopsAs files (errors.Unread path) = files ≡ Unread path.now
StopsAs files (errors.Refused error path) = files ≡ Refused error path.now
StopsAs files errors.Write = ⊥
StopsAs files errors.NoMemory = AreAdded files

-- the result is a tree of all files if all were added, or else the error
abbrev pub AddsAs : Added → Result Tree CheckError → Type 0
AddsAs files (Ok tree) = (f : Files) × (files ≡ All f) × IsTree f tree
AddsAs files (Err error) = StopsAs files error

-- the result is a tree of these files and the file at a path, or the error
abbrev pub AddsOne : Files → (path : List ℕ) → Answer → Result Tree CheckError → Type 0
AddsOne f path answer result = AddsAs (answered_add f path answer [] All) result

-- the result without the meter
abbrev pub tree_of : {M : Type 0} → Result (Tree × M) CheckError → Result Tree CheckError
tree_of (Ok made) = Ok made.0
tree_of (Err error) = Err error

-- the files at these paths were read from a source in order, and the result is a tree of them, or the error
abbrev pub ReadsTree : (paths : List (List ℕ)) → (old new : Option SourceAnswers) → Result Tree CheckError → Type 0
ReadsTree paths old new result =
    (answers : List Answer) × GivesAnswers old paths answers new × AddsAs (added map.empty paths answers) result

-- a check of the files of the tree has this result
abbrev pub TellsOfTree : Tree → (prefixes : List (List ℕ)) → CheckForm → Result Bool CheckFault → (before now : Option (List ℕ)) → Type 0
TellsOfTree tree prefixes form result before now = (f : Files) → IsTree f tree → ChecksAs prefixes form (All f) result before now
