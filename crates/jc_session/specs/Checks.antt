-- The check of a tree of files: the files are added one by one, and the report of all or its errors are written.
use Rattle.std.specs.Prelude.{◌≡◌, ◌≤◌, ℕ, Bool, List, [], ◌∷◌, Option, Some, None, Result, Ok, Err, ⊤}
use Rattle.std.specs.Io.KnownBytes.{Appends, Keeps}
use Rattle.jc_base.specs.Device.{MoreFaults, WritesFront}
use Rattle.jc_report.specs.Files.{Files}
use Rattle.jc_report.specs.ErrorsText.{errors_text, has_error_among}
use Rattle.jc_report.specs.ReportText.{report_text}
use Rattle.jc_report.specs.Reports.{IsReport, Report, is_wrong}
use Rattle.jc_report.specs.TreeErrors.{IsTreeErrors, TreeErrors}
use Rattle.jc_input.specs.declared.edit.EditError.{EditError}
use Rattle.jc_input.specs.declared.source.SourceError.{SourceError}
use Rattle.jc_input.specs.declared.source.SourceError.TheVariants as sources
use Rattle.jc_input.specs.Changes.{Adds}
use Rattle.jc_input.specs.FileEdits.{after, judge}
use Rattle.jc_input.specs.Sources.{SourceAnswers, TakesAnswer}
use Rattle.jc_session.specs.declared.tree_check.CheckForm.{CheckForm}
use Rattle.jc_session.specs.declared.tree_check.CheckForm.TheVariants as forms

-- ---- the answers of the source

-- the answer of the source to one path: the bytes of the file, or an error
abbrev pub Answer : Type 0
Answer = Result (List ℕ) SourceError

-- the source is asked for the first of these paths, in order, and returns these answers
abbrev pub GivesAnswers : Option SourceAnswers → (paths : List (List ℕ)) → List Answer → Option SourceAnswers → Type 0
GivesAnswers old paths [] new = new ≡ old
GivesAnswers old [] (answer ∷ answers) new = ⊥
GivesAnswers old (path ∷ paths) (answer ∷ answers) new =
    (mid : Option SourceAnswers) × TakesAnswer old path answer mid × GivesAnswers mid paths answers new

-- ---- files that are added one by one

-- the outcome of adding files one by one
pub data Added : Type 0 where
  -- all files were added, and are these
  All : Files → Added
  -- the source returned no bytes for this path
  Unread : (path : List ℕ) → Added
  -- the file at this path was refused
  Refused : EditError → (path : List ℕ) → Added
  -- memory ran out
  Lacks : Added
  -- the source was asked for another path after a file was not added
  AskedOn : Added

-- this outcome, if the source was asked for no path after it
abbrev pub stops_at : Added → List Answer → Added
stops_at stop [] = stop
stops_at stop (answer ∷ answers) = AskedOn

-- the outcome for a file that is refused for this reason, or added at `None`; `more` is the outcome for later files
abbrev pub judged_add : Files → (path bytes : List ℕ) → Option EditError → List Answer → (Files → Added) → Added
judged_add f path bytes None answers more = more (after f (Adds path bytes))
judged_add f path bytes (Some e) answers more = stops_at (Refused e path) answers

-- the outcome for a file with this answer of the source; `more` is the outcome for later files
abbrev pub answered_add : Files → (path : List ℕ) → Answer → List Answer → (Files → Added) → Added
answered_add f path (Ok bytes) answers more = judged_add f path bytes (judge f (Adds path bytes)) answers more
answered_add f path (Err sources.Unread) answers more = stops_at (Unread path) answers
answered_add f path (Err sources.NoMemory) answers more = stops_at Lacks answers

-- the files at the paths are added in order, up to the first that is not added. Memory ran out if an answer is missing
abbrev pub added : Files → (paths : List (List ℕ)) → List Answer → Added
added f [] answers = All f
added f (path ∷ paths) [] = Lacks
added f (path ∷ paths) (answer ∷ answers) = answered_add f path answer answers (λ g. added g paths answers)

-- all files were added, or memory ran out before one was unread or refused
abbrev pub AreAdded : Added → Type 0
AreAdded (All f) = ⊤
AreAdded (Unread path) = ⊥
AreAdded (Refused e path) = ⊥
AreAdded Lacks = ⊤
AreAdded AskedOn = ⊥

-- ---- checks

-- why a check fails
pub data CheckFault : Type 0 where
  FileUnread : (path : List ℕ) → CheckFault
  FileRefused : EditError → (path : List ℕ) → CheckFault
  WriteFailed : CheckFault
  NoMemory : CheckFault

-- the text of the report and whether it is wrong, or the text of the errors of this form and whether there are any
abbrev pub AreWritten : CheckForm → Files → (prefixes : List (List ℕ)) → (text : List ℕ) → (wrong : Bool) → Type 0
AreWritten forms.Report f prefixes text wrong =
    (r : Report) × IsReport f prefixes r × (text ≡ report_text r) × (wrong ≡ is_wrong r)
AreWritten (forms.Errors only used_only) f prefixes text wrong =
    (e : TreeErrors) × IsTreeErrors f prefixes e × (text ≡ errors_text (record { only = only; used_only = used_only }) e)
    × (wrong ≡ has_error_among (record { only = only; used_only = used_only }) e)

-- a check of files that were added with this outcome has this result. At `Ok` the text of its form was written. If the
-- output failed, a proper beginning of it was written. At every other error nothing was written. Memory ran out only if
-- no file is unread or refused
abbrev pub ChecksAs : (prefixes : List (List ℕ)) → CheckForm → Added → Result Bool CheckFault → (before now : Option (List ℕ)) → Type 0
ChecksAs prefixes form files (Ok wrong) before now =
    (f : Files) × (text : List ℕ) × (files ≡ All f) × AreWritten form f prefixes text wrong × Appends before now text
ChecksAs prefixes form files (Err WriteFailed) before now =
    (f : Files) × (text : List ℕ) × (wrong : Bool) × (files ≡ All f) × AreWritten form f prefixes text wrong
    × WritesFront before now text
ChecksAs prefixes form files (Err (FileUnread path)) before now = (files ≡ Unread path) × Keeps before now
ChecksAs prefixes form files (Err (FileRefused e path)) before now = (files ≡ Refused e path) × Keeps before now
ChecksAs prefixes form files (Err NoMemory) before now = AreAdded files × Keeps before now

-- the output's count of failures grows by one if the output failed, and otherwise stays
abbrev pub CountsCheck : Result Bool CheckFault → ℕ → ℕ → Type 0
CountsCheck (Ok wrong) old new = new ≡ old
CountsCheck (Err WriteFailed) old new = MoreFaults old new × (old ≤ new)
CountsCheck (Err (FileUnread path)) old new = new ≡ old
CountsCheck (Err (FileRefused e path)) old new = new ≡ old
CountsCheck (Err NoMemory) old new = new ≡ old
