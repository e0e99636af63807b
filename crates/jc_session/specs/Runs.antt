-- How a run over the lines of an input ends, and what it has done by then.
use Rattle.std.specs.Prelude.{◌≡◌, ℕ, ◌<◌, ◌≤◌, ◌⊎◌, ◌↔◌, Bool, true, false, ⊤, IsSome}
use Rattle.std.specs.Prelude.{List, [], ◌∷◌, ◌++◌, length, take, Option, Some, None, Result, Ok, Err}
use Rattle.std.specs.List.{list_any}
use Rattle.std.specs.Io.KnownBytes.{Appends, Keeps}
use Rattle.jc_input.specs.declared.run_error.RunError.{RunError}
use Rattle.jc_input.specs.declared.run_error.RunError.TheVariants as run_errors
use Rattle.jc_input.specs.declared.run_error.Ended.{Ended}
use Rattle.jc_input.specs.declared.run_error.Ended.TheVariants as ended
use Rattle.jc_input.specs.declared.source.SourceError.{SourceError}
use Rattle.jc_input.specs.declared.source.SourceError.TheVariants as sources
use Rattle.jc_edits.specs.SessionState.{Contents, SessionState, contents_of}
use Rattle.jc_input.specs.Changes.{Change, Adds, Replaces, Removes, AddsPrefix, DropsPrefix, OfFiles, OfPrefixes}
use Rattle.jc_edits.specs.Edits.{judge_edit}
use Rattle.jc_report.specs.FileRows.{winner}
use Rattle.jc_input.specs.Lines.{Command, Add, Replace, Remove, AddPrefix, DropPrefix, Report, Part, Listing, Dependants, End, Bad}
use Rattle.jc_input.specs.Lines.{command_of, lines_of, whole_lines}
use Rattle.jc_input.specs.Sources.{SourceAnswers, next_answer}
use Rattle.jc_session.specs.Answers.{Reply, Says, Lists, Ends, Lacks, Replies, Run, RunsTo, Ending, AtEnd, AtEof}

-- the state after a run: the files and prefixes, the source's answers to come, and the input's bytes to come. Also the
-- bytes that were written to the output, before the run and after it. `None` means that they are not known
pub record Left : Type 0 where
  pub held : Contents
  pub source : Option SourceAnswers
  pub coming : Option (List ℕ)
  pub before : Option (List ℕ)
  pub now : Option (List ℕ)

abbrev pub left_by : Contents → Option SourceAnswers → (coming before now : Option (List ℕ)) → Left
left_by held source coming before now = record { held = held; source = source; coming = coming; before = before; now = now }

-- the run has this ending, session and source are in its last state, and exactly its text was written
pub record IsDone (run : Run) (ending : Ending) (left : Left) : Type 0 where
  pub ends : run.ending ≡ ending
  pub held : left.held ≡ run.held
  pub source : left.source ≡ Some run.source
  pub text : Appends left.before left.now run.text

-- ---- a run that ends

-- the ending of a run over lines, for how a call of `run` ends
abbrev pub ending_of : Ended → Ending
ending_of ended.End = AtEnd
ending_of ended.Eof = AtEof

-- whether a command is `end`
abbrev pub is_end : Command → Bool
is_end (Add path) = false
is_end (Replace path) = false
is_end (Remove path) = false
is_end (AddPrefix prefix) = false
is_end (DropPrefix prefix) = false
is_end Report = false
is_end (Part name) = false
is_end (Listing name) = false
is_end (Dependants name) = false
is_end End = true
is_end Bad = false

-- whether one of the lines is `end`
abbrev pub has_end : List (List ℕ) → Bool
has_end lines = list_any (λ line. is_end (command_of line)) lines

-- all lines were answered, up to the first that is `end`, and for none of them the source was out of memory
pub record EndsAs (h : Contents) (s : SourceAnswers) (bytes : List ℕ) (how : Ended) (left : Left) : Type 0 where
  pub run : Run
  pub runs : RunsTo h s (lines_of bytes) run
  pub done : IsDone run (ending_of how) left
  pub by_end : (how ≡ ended.End) ↔ (has_end (lines_of bytes) ≡ true)

-- ---- a run that stops

-- the input failed: all lines that were read with their LF were answered, and none of them is `end`
abbrev pub StopsAtRead : Contents → SourceAnswers → List ℕ → Left → Type 0
StopsAtRead h s bytes left =
    (front : List ℕ) × (coming : List ℕ) × (run : Run) × (bytes ≡ front ++ coming) × (left.coming ≡ Some coming)
    × RunsTo h s (whole_lines front) run × IsDone run AtEof left

-- the text was written, and after it a proper beginning of the answer `said`
abbrev pub BreaksText : List ℕ → (text : List ℕ) → Left → Type 0
BreaksText said text left = (n : ℕ) × (n < length said) × Appends left.before left.now (text ++ take n said)

-- after a run another line was executed with this reply, and a proper beginning of its answer was written
abbrev pub BreaksOff : Reply → Run → Left → Type 0
BreaksOff (Says said held source) run left = (left.held ≡ held) × (left.source ≡ Some source) × BreaksText said run.text left
BreaksOff (Lists said) run left = (left.held ≡ run.held) × (left.source ≡ Some run.source) × BreaksText said run.text left
BreaksOff Ends run left = ⊥
BreaksOff (Lacks source) run left = ⊥

-- the output failed at a line: the lines before it were answered, and none of them is `end`. The line was executed, and
-- a proper beginning of its answer was written
abbrev pub StopsAtWrite : Contents → SourceAnswers → List ℕ → Left → Type 0
StopsAtWrite h s bytes left =
    (lines : List (List ℕ)) × (line : List ℕ) × (rest : List (List ℕ)) × (run : Run) × (r : Reply)
    × (lines_of bytes ≡ lines ++ line ∷ rest)
    × RunsTo h s lines run × (run.ending ≡ AtEof) × Replies run.held run.source (command_of line) r × BreaksOff r run left

-- memory may run out at an edit with this answer of the source: it is not refused, or the source is out of memory
abbrev pub MayLack : Contents → (List ℕ → Change) → Result (List ℕ) SourceError → Type 0
MayLack h change (Ok bytes) = judge_edit h (OfFiles (change bytes)) ≡ None
MayLack h change (Err sources.Unread) = ⊥
MayLack h change (Err sources.NoMemory) = ⊤

-- memory may run out at this line: at an edit that is not refused, or if the source is out of memory. It may also run
-- out at the listing of a class that a file gives
abbrev pub LineMayLack : Contents → SourceAnswers → Command → Type 0
LineMayLack h s (Add path) = MayLack h (Adds path) (next_answer s path)
LineMayLack h s (Replace path) = MayLack h (Replaces path) (next_answer s path)
LineMayLack h s (Remove path) = judge_edit h (OfFiles (Removes path)) ≡ None
LineMayLack h s (AddPrefix prefix) = judge_edit h (OfPrefixes (AddsPrefix prefix)) ≡ None
LineMayLack h s (DropPrefix prefix) = judge_edit h (OfPrefixes (DropsPrefix prefix)) ≡ None
LineMayLack h s Report = ⊥
LineMayLack h s (Part name) = ⊥
LineMayLack h s (Listing name) = IsSome (winner h.files name)
LineMayLack h s (Dependants name) = ⊥
LineMayLack h s End = ⊥
LineMayLack h s Bad = ⊥

-- nothing was read, written or changed
pub record IsNotBegun (h : Contents) (s : SourceAnswers) (bytes : List ℕ) (left : Left) : Type 0 where
  pub held : left.held ≡ h
  pub source : left.source ≡ Some s
  pub coming : left.coming ≡ Some bytes
  pub kept : Keeps left.before left.now

-- after a run, memory ran out at a line with this reply, and the line changed nothing. A beginning of a listing may be
-- written. At an edit nothing is written; for an edit with bytes of the source, the source was asked for them
abbrev pub GivesUp : Reply → Run → Left → Type 0
GivesUp (Says said held source) run left = IsDone (record run { source = source }) AtEof left
GivesUp (Lists said) run left = (n : ℕ) × (n ≤ length said) × IsDone (record run { text = run.text ++ take n said }) AtEof left
GivesUp Ends run left = ⊥
GivesUp (Lacks source) run left = IsDone (record run { source = source }) AtEof left

-- memory ran out at a line: the lines before it were answered, and none of them is `end`
abbrev pub StopsForMemory : Contents → SourceAnswers → List ℕ → Left → Type 0
StopsForMemory h s bytes left =
    (lines : List (List ℕ)) × (line : List ℕ) × (rest : List (List ℕ)) × (run : Run) × (r : Reply)
    × (lines_of bytes ≡ lines ++ line ∷ rest)
    × RunsTo h s lines run × Replies run.held run.source (command_of line) r × GivesUp r run left
    × LineMayLack run.held run.source (command_of line)

-- a run over the bytes of an input stopped with this error
abbrev pub StopsAs : Contents → SourceAnswers → List ℕ → RunError → Left → Type 0
StopsAs h s bytes run_errors.Read left = StopsAtRead h s bytes left
StopsAs h s bytes run_errors.Write left = StopsAtWrite h s bytes left
StopsAs h s bytes run_errors.NoMemory left = IsNotBegun h s bytes left ⊎ StopsForMemory h s bytes left

-- a run over the bytes of an input ended in this way, or stopped with this error
abbrev pub RunsAs : Contents → SourceAnswers → List ℕ → Result Ended RunError → Left → Type 0
RunsAs h s bytes (Ok how) left = EndsAs h s bytes how left
RunsAs h s bytes (Err e) left = StopsAs h s bytes e left

-- a run, if the input's bytes to come and the source's answers to come are known
abbrev pub RunsFrom : Contents → Option SourceAnswers → (input : Option (List ℕ)) → Result Ended RunError → Left → Type 0
RunsFrom h source input ending left =
    (bytes : List ℕ) (s : SourceAnswers) → input ≡ Some bytes → source ≡ Some s → RunsAs h s bytes ending left

-- a run with any source, if the input's bytes to come are known: there are answers for which `RunsAs` holds
abbrev pub RunsByAnswers : Contents → (input : Option (List ℕ)) → Result Ended RunError → Left → Type 0
RunsByAnswers h input ending left =
    (bytes : List ℕ) → input ≡ Some bytes → (s : SourceAnswers) × RunsAs h s bytes ending left

-- ---- runs over devices: functions return a source's answers to come, an input's bytes to come, and an output's bytes

-- a run over these devices, if the source's answers to come are known
abbrev pub RunsOver : {S R W : Type 0} → (S → Option SourceAnswers) → (R → Option (List ℕ)) → (W → Option (List ℕ)) → Result Ended RunError
    → (old new : SessionState) (source source_now : S) (input input_now : R) (out out_now : W) → Type 0
RunsOver answers remaining written ending old new source source_now input input_now out out_now =
    RunsFrom (contents_of old) (answers source) (remaining input) ending
    (left_by (contents_of new) (answers source_now) (remaining input_now) (written out) (written out_now))

-- a run over these devices, with any source
abbrev pub RunsOverByAnswers : {R W : Type 0} → (R → Option (List ℕ)) → (W → Option (List ℕ)) → Result Ended RunError
    → (old new : SessionState) (input input_now : R) (out out_now : W) → Type 0
RunsOverByAnswers remaining written ending old new input input_now out out_now =
    RunsByAnswers (contents_of old) (remaining input) ending
    (left_by (contents_of new) (Some []) (remaining input_now) (written out) (written out_now))
