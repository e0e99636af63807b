-- How the program ends, and what it writes to standard error.
use Rattle.std.specs.Prelude.{◌≡◌, ℕ, ◌≤◌, ◌⊎◌, Bool, true, false, List, [], ◌∷◌, ◌++◌, codes, decimal}
use Rattle.std.specs.Prelude.{Option, Some, Result, Ok, Err, MatchOption}
use Rattle.std.specs.FinMap as map
use Rattle.std.specs.Io.KnownBytes.{Appends, Keeps}
use Rattle.std.specs.List.Sorted.{IsStrictlySortedBy}
use Rattle.jc_base.specs.Device.{MoreFaults, WritesFront}
use Rattle.jc_input.specs.declared.run_error.Ended.{Ended}
use Rattle.jc_input.specs.declared.run_error.RunError.{RunError}
use Rattle.jc_input.specs.declared.run_error.RunError.TheVariants as run_errors
use Rattle.jc_input.specs.declared.source.SourceError.{SourceError}
use Rattle.jc_input.specs.declared.source.SourceError.TheVariants as sources
use Rattle.jc_input.specs.declared.edit.EditError.{EditError}
use Rattle.jc_input.specs.declared.edit.EditError.TheVariants as errors
use Rattle.jc_text.specs.Escapes.{path_text}
use Rattle.jc_input.specs.EditErrors.{edit_code, edit_error_name}
use Rattle.jc_session.specs.Checks.{Answer, CheckFault, ChecksAs, FileRefused, FileUnread, WriteFailed, added}
use Rattle.jc_session.specs.Checks as checks
use Rattle.jc_session.specs.declared.tree_check.CheckForm.{CheckForm}
use Rattle.jc_classes.specs.Names.{name_cmp}
use Rattle.jc_list.specs.Listing.{WritesBeginning}
use Rattle.jc_session.specs.ListedText.{file_text, is_faulty_file}
use Rattle.jc_input.specs.FileEdits.{size_refusal}
use Rattle.jc_edits.specs.SessionState.{Contents}
use Rattle.jc_session.specs.Runs.{RunsByAnswers, left_by}
use Rattle.jc_report.specs.Reports.{IsReport, Report, is_wrong}
use Rattle.jc_session.specs.Words.{AsksCheck, AsksListing, AsksRun, IsUsageError, Word}

-- why the program ends with a line on standard error
pub data ProgramError : Type 0 where
  -- the arguments are a usage error
  Usage : ProgramError
  -- the input of a session failed
  Input : ProgramError
  -- the output failed
  Output : ProgramError
  -- out of memory
  NoMemory : ProgramError
  -- the file or the folder at a path can't be read
  Unread : (path : List ℕ) → ProgramError
  -- the file at a path is refused
  Refused : EditError → (path : List ℕ) → ProgramError

-- how the program ends: whether something is wrong, or by which fault
abbrev pub Outcome : Type 0
Outcome = Result Bool ProgramError

-- the fault for an error of a run
abbrev pub fault_of : RunError → ProgramError
fault_of run_errors.Read = Input
fault_of run_errors.Write = Output
fault_of run_errors.NoMemory = NoMemory

-- the outcome of a run: whether the report at its end is wrong, or the fault for its error
abbrev pub IsOutcome : Result Ended RunError → Contents → Outcome → Type 0
IsOutcome (Ok how) h outcome = (r : Report) × IsReport h.files h.prefixes r × (outcome ≡ Ok (is_wrong r))
IsOutcome (Err e) h outcome = outcome ≡ Err (fault_of e)

-- the files and prefixes before the first line: no files, and these prefixes
abbrev pub begun : List (List ℕ) → Contents
begun prefixes = record { files = map.empty; prefixes = prefixes }

-- a run over the input has this outcome, for some answers of its source. It begins without files, and with the prefixes
-- that the arguments ask for
abbrev pub RunsSession : (words : List Word) → Outcome → (input coming before now : Option (List ℕ)) → Type 0
RunsSession words outcome input coming before now =
    (prefixes : List (List ℕ)) × AsksRun words prefixes
    × (ending : Result Ended RunError) × (held : Contents) × IsOutcome ending held outcome
    × RunsByAnswers (begun prefixes) input ending (left_by held (Some []) coming before now)

-- the text of a file was written: its listing, or why its bytes are not a readable class file. If the output failed, a
-- proper beginning of it was written. If memory ran out, a beginning or all of it was written
abbrev pub ListsFile : List ℕ → Outcome → (before now : Option (List ℕ)) → Type 0
ListsFile bytes outcome before now =
    ((outcome ≡ Ok (is_faulty_file bytes)) × Appends before now (file_text bytes))
    ⊎ ((outcome ≡ Err Output) × WritesFront before now (file_text bytes))
    ⊎ ((outcome ≡ Err NoMemory) × WritesBeginning before now (file_text bytes))

-- the file at a path was listed by the answer of the source. If the file is unread or too large, or the source is out
-- of memory, nothing was written
abbrev pub ListsAs : (path : List ℕ) → Result (List ℕ) SourceError → Outcome → (before now : Option (List ℕ)) → Type 0
ListsAs path (Ok bytes) outcome before now =
    MatchOption (size_refusal bytes) (ListsFile bytes outcome before now)
    (λ _. (outcome ≡ Err (Refused errors.TooLarge path)) × Keeps before now)
ListsAs path (Err sources.Unread) outcome before now = (outcome ≡ Err (Unread path)) × Keeps before now
ListsAs path (Err sources.NoMemory) outcome before now = (outcome ≡ Err NoMemory) × Keeps before now

-- the fault for an error of a check
abbrev pub fault_of_check : CheckFault → ProgramError
fault_of_check (FileUnread path) = Unread path
fault_of_check (FileRefused e path) = Refused e path
fault_of_check WriteFailed = Output
fault_of_check checks.NoMemory = NoMemory

-- the outcome for the result of a check
abbrev pub outcome_of_check : Result Bool CheckFault → Outcome
outcome_of_check (Ok wrong) = Ok wrong
outcome_of_check (Err fault) = Err (fault_of_check fault)

-- the file that the arguments ask for was listed, by some answer of the source
abbrev pub Lists : (words : List Word) → Outcome → (before now : Option (List ℕ)) → Type 0
Lists words outcome before now =
    (path : List ℕ) × AsksListing words path × (answer : Result (List ℕ) SourceError) × ListsAs path answer outcome before now

-- the files at some paths, in strictly ascending order, were checked by some answers of the source. The prefixes and
-- the form are those that the arguments ask for
abbrev pub ChecksFiles : (words : List Word) → Outcome → (before now : Option (List ℕ)) → Type 0
ChecksFiles words outcome before now =
    (prefixes : List (List ℕ)) × (form : CheckForm) × (folder : List ℕ) × AsksCheck words prefixes form folder
    × (paths : List (List ℕ)) × IsStrictlySortedBy name_cmp paths × (answers : List Answer) × (checked : Result Bool CheckFault)
    × (outcome ≡ outcome_of_check checked)
    × ChecksAs prefixes form (added map.empty paths answers) checked before now

-- the walk of a folder failed and nothing was written, or the files at some paths were checked
abbrev pub Checks : (words : List Word) → Outcome → (before now : Option (List ℕ)) → Type 0
Checks words outcome before now =
    ((outcome ≡ Err NoMemory) × Keeps before now)
    ⊎ ((folder : List ℕ) × (outcome ≡ Err (Unread folder)) × Keeps before now)
    ⊎ ChecksFiles words outcome before now

-- the first argument is this command
abbrev pub NamesCommand : (command : Word) → (words : List Word) → Type 0
NamesCommand command words = (behind : List Word) × (words ≡ command ∷ behind)

-- the command that the first argument names was performed: a run, a listing of a file, or a check of a tree. Only a run
-- reads the input. The function `remaining` returns the input's bytes to come
abbrev pub PerformsCommand : {R : Type 0} → (remaining : R → Option (List ℕ)) → (words : List Word) → Outcome
    → (input coming : R) → (before now : Option (List ℕ)) → Type 0
PerformsCommand remaining words outcome input coming before now =
    (NamesCommand (codes "session") words × RunsSession words outcome (remaining input) (remaining coming) before now)
    ⊎ (NamesCommand (codes "list") words × (coming ≡ input) × Lists words outcome before now)
    ⊎ (NamesCommand (codes "check") words × (coming ≡ input) × Checks words outcome before now)

-- the arguments are a usage error, or memory ran out while they were parsed, and nothing was performed. Or they are no
-- usage error, and their command was performed
abbrev pub Performs : {R : Type 0} → (remaining : R → Option (List ℕ)) → (words : List Word) → Outcome
    → (input coming : R) → (before now : Option (List ℕ)) → Type 0
Performs remaining words outcome input coming before now =
    ((outcome ≡ Err Usage) × IsUsageError words × (coming ≡ input) × Keeps before now)
    ⊎ ((outcome ≡ Err NoMemory) × (coming ≡ input) × Keeps before now)
    ⊎ (¬ (IsUsageError words) × PerformsCommand remaining words outcome input coming before now)

-- the exit status for a fault
abbrev pub fault_status : ProgramError → ℕ
fault_status Usage = 2
fault_status Input = 3
fault_status Output = 3
fault_status NoMemory = 4
fault_status (Unread path) = 3
fault_status (Refused e path) = 3

-- the exit status for an outcome
abbrev pub status_of : Outcome → ℕ
status_of (Ok false) = 0
status_of (Ok true) = 1
status_of (Err fault) = fault_status fault

-- the line on standard error for a fault
abbrev pub fault_text : ProgramError → List ℕ
fault_text Usage = codes "jclink: usage\n"
fault_text Input = codes "jclink: cannot read input\n"
fault_text Output = codes "jclink: cannot write\n"
fault_text NoMemory = codes "jclink: no memory\n"
fault_text (Unread path) = codes "jclink: cannot read " ++ path_text path ++ codes "\n"
fault_text (Refused e path) =
    codes "jclink: refused " ++ decimal (edit_code e) ++ codes " " ++ edit_error_name e ++ codes " " ++ path_text path ++ codes "\n"

-- the text was written, or a proper beginning of it was written and the device failed
abbrev pub WritesUnlessFailed : List ℕ → (before after : Option (List ℕ)) (old new : ℕ) → Type 0
WritesUnlessFailed text before after old new =
    (Appends before after text × (new ≡ old)) ⊎ (WritesFront before after text × MoreFaults old new × (old ≤ new))

-- the line of a fault was written, unless the device failed; without a fault nothing was written
abbrev pub Tells : Outcome → (before after : Option (List ℕ)) (old new : ℕ) → Type 0
Tells (Ok wrong) before after old new = Keeps before after × (new ≡ old)
Tells (Err fault) before after old new = WritesUnlessFailed (fault_text fault) before after old new

-- the status is that of the outcome, and the line of a fault was written to `err` as above. Functions return the bytes
-- written to `err` and its count of failures
abbrev pub Concludes : {E : Type 0} → (E → Option (List ℕ)) → (E → ℕ) → Outcome → (status : ℕ) → (err err_now : E) → Type 0
Concludes written failures outcome status err err_now =
    (status ≡ status_of outcome) × Tells outcome (written err) (written err_now) (failures err) (failures err_now)

-- the input's count of failures grows by one at the fault `Input`, and otherwise stays
abbrev pub CountsInput : Outcome → ℕ → ℕ → Type 0
CountsInput (Ok x) old new = new ≡ old
CountsInput (Err Usage) old new = new ≡ old
CountsInput (Err Input) old new = MoreFaults old new × (old ≤ new)
CountsInput (Err Output) old new = new ≡ old
CountsInput (Err NoMemory) old new = new ≡ old
CountsInput (Err (Unread path)) old new = new ≡ old
CountsInput (Err (Refused e path)) old new = new ≡ old

-- the output's count of failures grows by one at the fault `Output`, and otherwise stays
abbrev pub CountsOutput : Outcome → ℕ → ℕ → Type 0
CountsOutput (Ok x) old new = new ≡ old
CountsOutput (Err Usage) old new = new ≡ old
CountsOutput (Err Input) old new = new ≡ old
CountsOutput (Err Output) old new = MoreFaults old new × (old ≤ new)
CountsOutput (Err NoMemory) old new = new ≡ old
CountsOutput (Err (Unread path)) old new = new ≡ old
CountsOutput (Err (Refused e path)) old new = new ≡ old
