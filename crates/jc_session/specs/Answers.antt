-- The replies to the lines of a session, and the runs over lists of lines.
use Rattle.std.specs.Prelude.{◌≡◌, ℕ, List, [], ◌∷◌, ◌++◌, drop, Option, Some, None, Result, Ok, Err, codes}
use Rattle.jc_input.specs.declared.edit.EditError.{EditError}
use Rattle.jc_input.specs.declared.source.SourceError.{SourceError}
use Rattle.jc_input.specs.declared.source.SourceError.TheVariants as sources
use Rattle.jc_input.specs.Changes.{Change, Adds, Replaces, Removes, AddsPrefix, DropsPrefix, EditChange, OfFiles, OfPrefixes}
use Rattle.jc_edits.specs.Edits.{judge_edit, after_edit}
use Rattle.jc_edits.specs.SessionState.{Contents}
use Rattle.jc_report.specs.ReportText.{report_text}
use Rattle.jc_report.specs.Reports as reports
use Rattle.jc_report.specs.Reports.{IsReport}
use Rattle.jc_edits.specs.SaidPart.{SaysPart}
use Rattle.jc_session.specs.AnswerText.{refused_text, unread_text}
use Rattle.jc_session.specs.ListedText.{listed_text}
use Rattle.jc_session.specs.SaidDependants.{SaysDependants}
use Rattle.jc_input.specs.Lines.{Command, Add, Replace, Remove, AddPrefix, DropPrefix, Report, Part, Listing, Dependants, End, Bad, command_of}
use Rattle.jc_input.specs.Sources.{SourceAnswers, next_answer}

-- the reply to one line: the text of its answer, and the state after it
pub data Reply : Type 0 where
  -- this text; after it the session has these files and prefixes, and the source has these answers to come
  Says : (text : List ℕ) (held : Contents) (source : SourceAnswers) → Reply
  -- this text of a listing; nothing changes. Memory may run out after a beginning of it was written
  Lists : (text : List ℕ) → Reply
  -- no text, and no further line is answered
  Ends : Reply
  -- no text, since the source is out of memory; after it the source has these answers to come
  Lacks : (source : SourceAnswers) → Reply

-- the reply to an edit that is refused for this reason, or made at `None`
abbrev pub judged_reply : Contents → SourceAnswers → EditChange → Option EditError → Reply
judged_reply h s change None = Says (codes "ok\n") (after_edit h change) s
judged_reply h s change (Some e) = Says (refused_text e) h s

-- the reply to an edit: it is made unless `judge_edit` refuses it
abbrev pub edit_reply : Contents → SourceAnswers → EditChange → Reply
edit_reply h s change = judged_reply h s change (judge_edit h change)

-- the reply to a line that edits a file with bytes of the source, by the answer of the source
abbrev pub told_reply : Contents → SourceAnswers → List ℕ → (List ℕ → Change) → Result (List ℕ) SourceError → Reply
told_reply h s path change (Ok bytes) = edit_reply h s (OfFiles (change bytes))
told_reply h s path change (Err sources.Unread) = Says (unread_text path) h s
told_reply h s path change (Err sources.NoMemory) = Lacks s

-- the reply to a line that edits a file with bytes of the source: the source is first asked for the bytes at the path
abbrev pub sourced_reply : Contents → SourceAnswers → List ℕ → (List ℕ → Change) → Reply
sourced_reply h s path change = told_reply h (drop 1 s) path change (next_answer s path)

-- the text is that of the report of these files and prefixes
abbrev pub SaysReport : Contents → List ℕ → Type 0
SaysReport h text = (r : reports.Report) × IsReport h.files h.prefixes r × (text ≡ report_text r)

-- r is the reply to a command, for a session with the files and prefixes h and a source with the answers s to come
abbrev pub Replies : Contents → SourceAnswers → Command → Reply → Type 0
Replies h s (Add path) r = r ≡ sourced_reply h s path (Adds path)
Replies h s (Replace path) r = r ≡ sourced_reply h s path (Replaces path)
Replies h s (Remove path) r = r ≡ edit_reply h s (OfFiles (Removes path))
Replies h s (AddPrefix prefix) r = r ≡ edit_reply h s (OfPrefixes (AddsPrefix prefix))
Replies h s (DropPrefix prefix) r = r ≡ edit_reply h s (OfPrefixes (DropsPrefix prefix))
Replies h s Report r = (text : List ℕ) × SaysReport h text × (r ≡ Says text h s)
Replies h s (Part name) r = (text : List ℕ) × SaysPart h.files h.prefixes name text × (r ≡ Says text h s)
Replies h s (Listing name) r = r ≡ Lists (listed_text h.files name)
Replies h s (Dependants name) r = (text : List ℕ) × SaysDependants h name text × (r ≡ Says text h s)
Replies h s End r = r ≡ Ends
Replies h s Bad r = r ≡ Says (codes "bad line\n") h s

-- how a run over lines ends
pub data Ending : Type 0 where
  -- at the line `end`
  AtEnd : Ending
  -- after the last line
  AtEof : Ending
  -- at a line for which the source is out of memory
  WithoutMemory : Ending

-- a run over lines: the text of all answers, the files, prefixes and answers of the source after them, and how it ends
pub record Run : Type 0 where
  pub text : List ℕ
  pub held : Contents
  pub source : SourceAnswers
  pub ending : Ending

-- the run with this text before its own
abbrev pub after_text : List ℕ → Run → Run
after_text text run = record { text = text ++ run.text; held = run.held; source = run.source; ending = run.ending }

-- from these files, prefixes and answers of the source, a list of lines has this run
pub data RunsTo : Contents → SourceAnswers → List (List ℕ) → Run → Type 0 where
  -- no line is left
  at_eof : (h : Contents) (s : SourceAnswers) → RunsTo h s [] (record { text = []; held = h; source = s; ending = AtEof })
  -- the first line has a text as its reply, and the other lines have a run from the state after it
  says : (h g : Contents) (s t : SourceAnswers) (line : List ℕ) (lines : List (List ℕ)) (text : List ℕ) (run : Run)
      → Replies h s (command_of line) (Says text g t) → RunsTo g t lines run → RunsTo h s (line ∷ lines) (after_text text run)
  -- the reply to the first line is a listing, and the other lines have a run from the same state
  lists : (h : Contents) (s : SourceAnswers) (line : List ℕ) (lines : List (List ℕ)) (text : List ℕ) (run : Run)
      → Replies h s (command_of line) (Lists text) → RunsTo h s lines run → RunsTo h s (line ∷ lines) (after_text text run)
  -- the first line is `end`, and no further line is answered
  ends : (h : Contents) (s : SourceAnswers) (line : List ℕ) (lines : List (List ℕ))
      → Replies h s (command_of line) Ends → RunsTo h s (line ∷ lines) (record { text = []; held = h; source = s; ending = AtEnd })
  -- the source is out of memory for the first line, and no further line is answered
  lacks : (h : Contents) (s t : SourceAnswers) (line : List ℕ) (lines : List (List ℕ))
      → Replies h s (command_of line) (Lacks t)
      → RunsTo h s (line ∷ lines) (record { text = []; held = h; source = t; ending = WithoutMemory })

-- from the same files, prefixes and answers of the source, a list of lines has at most one run
abbrev pub OneRun : Type 0
OneRun = (h : Contents) (s : SourceAnswers) (lines : List (List ℕ)) (q r : Run) → RunsTo h s lines q → RunsTo h s lines r → q ≡ r
