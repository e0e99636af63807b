-- What the private functions do for one line of a session.
use Rattle.std.specs.Prelude.{◌≡◌, ℕ, List, [], ◌∷◌, ◌++◌, Option, None, Some, Result, Ok, Err}
use Rattle.std.specs.Io.KnownBytes.{Appends, Keeps}
use Rattle.jc_base.specs.Device.{WritesFront}
use Rattle.jc_list.specs.Listing.{WritesBeginning}
use Rattle.jc_session.specs.declared.answer.Next.{Next}
use Rattle.jc_session.specs.declared.answer.Next.TheVariants as next
use Rattle.jc_session.specs.declared.answer.Placing.{Placing}
use Rattle.jc_session.specs.declared.answer.Placing.TheVariants as placings
use Rattle.jc_input.specs.declared.run_error.RunError.{RunError}
use Rattle.jc_input.specs.declared.run_error.RunError.TheVariants as run_errors
use Rattle.jc_input.specs.declared.run_error.Ended.{Ended}
use Rattle.jc_input.specs.declared.run_error.Ended.TheVariants as ended
use Rattle.jc_edits.specs.SessionState.{Contents, SessionState, contents_of}
use Rattle.jc_input.specs.Changes.{Change, Adds, Replaces, EditChange}
use Rattle.jc_input.specs.declared.edit.Done.{Done}
use Rattle.jc_input.specs.declared.edit.EditError.{EditError}
use Rattle.jc_edits.specs.Edits.{judge_edit, after_edit}
use Rattle.jc_edits.specs.Judged.{IsJudged}
use Rattle.jc_input.specs.Lines.{Command, command_of}
use Rattle.jc_input.specs.Sources.{SourceAnswers, next_answer}
use Rattle.jc_session.specs.Runs.{LineMayLack, MayLack}
use Rattle.jc_session.specs.Answers.{Reply, Says, Lists, Ends, Lacks, Replies, edit_reply, sourced_reply}
use Rattle.jc_session.specs.ListedText.{listed_text}

-- the change that adds a file with these bytes at a path, or replaces the bytes of that file
abbrev pub placed : Placing → List ℕ → List ℕ → Change
placed placings.Add path bytes = Adds path bytes
placed placings.Replace path bytes = Replaces path bytes

-- the edit was made and changed the files and prefixes h to g, or it was refused and h and g are equal
abbrev pub IsEdited : Contents → Contents → EditChange → Result Done EditError → Type 0
IsEdited h g change (Ok done) = (judge_edit h change ≡ None) × (g ≡ after_edit h change)
IsEdited h g change (Err e) = IsJudged e (judge_edit h change) × (g ≡ h)

-- the outcome of a line by the result of writing its answer
abbrev pub said_by : {E : Type 0} → Result (Unit {0}) E → Result Next RunError
said_by (Ok done) = Ok next.Line
said_by (Err fault) = Err run_errors.Write

-- a line was executed with this reply and this outcome. Before it the session has the files and prefixes h, and the
-- source has the answers s to come. After it they are `new` and `source`. The bytes of the output were `before`, and
-- they are `after`
abbrev pub Gives : Contents → SourceAnswers → Reply → Result Next RunError
    → (new : Contents) (source : Option SourceAnswers) (before after : Option (List ℕ)) → Type 0
Gives h s (Says text held t) (Ok next.Line) new source before after = (new ≡ held) × (source ≡ Some t) × Appends before after text
Gives h s (Says text held t) (Ok next.Nothing) new source before after = ⊥
Gives h s (Says text held t) (Err run_errors.Read) new source before after = ⊥
Gives h s (Says text held t) (Err run_errors.Write) new source before after =
    (new ≡ held) × (source ≡ Some t) × WritesFront before after text
Gives h s (Says text held t) (Err run_errors.NoMemory) new source before after = (new ≡ h) × (source ≡ Some t) × Keeps before after
Gives h s (Lists text) (Ok next.Line) new source before after = (new ≡ h) × (source ≡ Some s) × Appends before after text
Gives h s (Lists text) (Ok next.Nothing) new source before after = ⊥
Gives h s (Lists text) (Err run_errors.Read) new source before after = ⊥
Gives h s (Lists text) (Err run_errors.Write) new source before after = (new ≡ h) × (source ≡ Some s) × WritesFront before after text
Gives h s (Lists text) (Err run_errors.NoMemory) new source before after =
    (new ≡ h) × (source ≡ Some s) × WritesBeginning before after text
Gives h s Ends (Ok next.Line) new source before after = ⊥
Gives h s Ends (Ok next.Nothing) new source before after = (new ≡ h) × (source ≡ Some s) × Keeps before after
Gives h s Ends (Err e) new source before after = ⊥
Gives h s (Lacks t) (Ok go) new source before after = ⊥
Gives h s (Lacks t) (Err run_errors.Read) new source before after = ⊥
Gives h s (Lacks t) (Err run_errors.Write) new source before after = ⊥
Gives h s (Lacks t) (Err run_errors.NoMemory) new source before after = (new ≡ h) × (source ≡ Some t) × Keeps before after

-- the outcome of the last line, by how it ends a run
abbrev pub next_of : Result Ended RunError → Result Next RunError
next_of (Ok ended.Eof) = Ok next.Line
next_of (Ok ended.End) = Ok next.Nothing
next_of (Err e) = Err e

-- a line was executed with a reply to its command
abbrev pub GivesOwed : Contents → SourceAnswers → Command → Result Next RunError
    → (new : Contents) (source : Option SourceAnswers) (before after : Option (List ℕ)) → Type 0
GivesOwed h s command result new source before after = (r : Reply) × Replies h s command r × Gives h s r result new source before after

-- the bytes after the last LF were executed as a line, if there are any
abbrev pub GivesLast : Contents → SourceAnswers → List ℕ → Result Ended RunError
    → (new : Contents) (source : Option SourceAnswers) (before after : Option (List ℕ)) → Type 0
GivesLast h s [] result new source before after = (result ≡ Ok ended.Eof) × (new ≡ h) × (source ≡ Some s) × Keeps before after
GivesLast h s (x ∷ line) result new source before after = GivesOwed h s (command_of (x ∷ line)) (next_of result) new source before after

-- memory ran out only if it may run out with the source's answers to come
abbrev pub LacksOnlyIf : {T : Type 0} → Option SourceAnswers → (SourceAnswers → Type 0) → Result T RunError → Type 0
LacksOnlyIf source may_lack_by result = (s : SourceAnswers) → source ≡ Some s → result ≡ Err run_errors.NoMemory → may_lack_by s

-- ---- lines that add or replace a file with bytes of the source

-- the reply to such a line
abbrev pub placing_reply : Contents → Placing → (path : List ℕ) → SourceAnswers → Reply
placing_reply h placing path s = sourced_reply h s path (placed placing path)

-- memory may run out at such a line
abbrev pub PlacingMayLack : Contents → Placing → (path : List ℕ) → SourceAnswers → Type 0
PlacingMayLack h placing path s = MayLack h (placed placing path) (next_answer s path)

-- ---- lines with any source: it returned some answers, and any later answers may follow

-- a line was executed with a reply to its command, and memory ran out only if it may
abbrev pub GivesByAnswers : Contents → Command → Result Next RunError
    → (new : Contents) (before after : Option (List ℕ)) → Type 0
GivesByAnswers h command result new before after =
    (given : SourceAnswers) × ((later : SourceAnswers) →
    GivesOwed h (given ++ later) command result new (Some later) before after
    × (result ≡ Err run_errors.NoMemory → LineMayLack h (given ++ later) command))

-- the bytes after the last LF were executed as a line, if there are any, and memory ran out only if it may
abbrev pub GivesLastByAnswers : Contents → List ℕ → Result Ended RunError
    → (new : Contents) (before after : Option (List ℕ)) → Type 0
GivesLastByAnswers h line result new before after =
    (given : SourceAnswers) × ((later : SourceAnswers) →
    GivesLast h (given ++ later) line result new (Some later) before after
    × (result ≡ Err run_errors.NoMemory → LineMayLack h (given ++ later) (command_of line)))

-- a line was executed with the reply that `reply_by` returns for the source's answers. Memory ran out only if it may
abbrev pub GivesByReply : Contents → (SourceAnswers → Reply) → (SourceAnswers → Type 0) → Result Next RunError
    → (new : Contents) (before after : Option (List ℕ)) → Type 0
GivesByReply h reply_by may_lack_by result new before after =
    (given : SourceAnswers) × ((later : SourceAnswers) →
    Gives h (given ++ later) (reply_by (given ++ later)) result new (Some later) before after
    × (result ≡ Err run_errors.NoMemory → may_lack_by (given ++ later)))

-- ---- calls over a session and devices: functions return a source's answers to come and an output's bytes

-- a line was executed with a reply to its command, if the source's answers to come are known
abbrev pub AnswersLine : {S W : Type 0} → (S → Option SourceAnswers) → (W → Option (List ℕ)) → Command → Result Next RunError
    → (old new : SessionState) (source source_now : S) (out out_now : W) → Type 0
AnswersLine answers written command result old new source source_now out out_now =
    (s : SourceAnswers) → answers source ≡ Some s
    → GivesOwed (contents_of old) s command result (contents_of new) (answers source_now) (written out) (written out_now)

-- the bytes after the last LF were executed as a line, if there are any and the source's answers to come are known
abbrev pub AnswersLast : {S W : Type 0} → (S → Option SourceAnswers) → (W → Option (List ℕ)) → List ℕ → Result Ended RunError
    → (old new : SessionState) (source source_now : S) (out out_now : W) → Type 0
AnswersLast answers written line result old new source source_now out out_now =
    (s : SourceAnswers) → answers source ≡ Some s
    → GivesLast (contents_of old) s line result (contents_of new) (answers source_now) (written out) (written out_now)

-- a line added or replaced a file with bytes of the source, if the source's answers to come are known
abbrev pub AnswersPlacing : {S W : Type 0} → (S → Option SourceAnswers) → (W → Option (List ℕ)) → Placing → List ℕ → Result Next RunError
    → (old new : SessionState) (source source_now : S) (out out_now : W) → Type 0
AnswersPlacing answers written placing path result old new source source_now out out_now =
    (s : SourceAnswers) → answers source ≡ Some s
    → Gives (contents_of old) s (placing_reply (contents_of old) placing path s) result (contents_of new) (answers source_now)
    (written out) (written out_now)

-- ---- calls over a session and devices, with any source

-- a line was executed with a reply to its command
abbrev pub AnswersLineByAnswers : {W : Type 0} → (W → Option (List ℕ)) → Command → Result Next RunError
    → (old new : SessionState) (out out_now : W) → Type 0
AnswersLineByAnswers written command result old new out out_now =
    GivesByAnswers (contents_of old) command result (contents_of new) (written out) (written out_now)

-- the bytes after the last LF were executed as a line, if there are any
abbrev pub AnswersLastByAnswers : {W : Type 0} → (W → Option (List ℕ)) → List ℕ → Result Ended RunError
    → (old new : SessionState) (out out_now : W) → Type 0
AnswersLastByAnswers written line result old new out out_now =
    GivesLastByAnswers (contents_of old) line result (contents_of new) (written out) (written out_now)

-- a line that adds or replaces a file with bytes of the source was executed
abbrev pub AnswersPlacingByAnswers : {W : Type 0} → (W → Option (List ℕ)) → Placing → List ℕ → Result Next RunError
    → (old new : SessionState) (out out_now : W) → Type 0
AnswersPlacingByAnswers written placing path result old new out out_now =
    GivesByReply (contents_of old) (placing_reply (contents_of old) placing path) (PlacingMayLack (contents_of old) placing path)
    result (contents_of new) (written out) (written out_now)

-- a line was executed with the reply to an edit that has this result, whatever the files and prefixes are before it
abbrev pub SaysEdit : Result Done EditError → Result Next RunError → (before after : Option (List ℕ)) → Type 0
SaysEdit edited result before after =
    (h g : Contents) (change : EditChange) → IsEdited h g change edited → (s t : SourceAnswers)
    → Gives h s (edit_reply h t change) result g (Some t) before after

-- a line was executed with the listing of the winner of a class as its reply
abbrev pub SaysListing : SessionState → List ℕ → Result Next RunError → (before after : Option (List ℕ)) → Type 0
SaysListing session name result before after =
    (s : SourceAnswers) → Gives (contents_of session) s (Lists (listed_text session.files name)) result (contents_of session) (Some s) before after
