-- A run over lines, from its front and from its end, and by which line it ends.
use Rattle.std.proofs.Common.{◌≡◌, ◌∙◌, ◌++◌, ◌||◌, ◌↔◌, ℕ, Bool, true, false, List, [], ◌∷◌, None, Some, Result, Ok, Err, Option, refl, sym, ap, subst, append_assoc, drop}
use Rattle.jc_input.specs.declared.edit.EditError.{EditError}
use Rattle.jc_input.specs.declared.run_error.Ended.{Ended}
use Rattle.jc_input.specs.declared.run_error.Ended.TheVariants as ended
use Rattle.jc_input.specs.declared.source.SourceError.{SourceError}
use Rattle.jc_input.specs.declared.source.SourceError.TheVariants as sources
use Rattle.jc_edits.specs.SessionState.{Contents}
use Rattle.jc_input.specs.Changes.{Change, Adds, Replaces, Removes, AddsPrefix, DropsPrefix, EditChange, OfFiles, OfPrefixes}
use Rattle.jc_edits.specs.Edits.{judge_edit}
use Rattle.jc_input.specs.Lines.{Command, Add, Replace, Remove, AddPrefix, DropPrefix, Report, Part, Listing, Dependants, End, Bad, command_of}
use Rattle.jc_input.specs.Sources.{SourceAnswers, next_answer}
use Rattle.jc_session.specs.Answers.{Says, Lists, Ends, Lacks, judged_reply, told_reply, Replies, Run, RunsTo, AtEnd, AtEof, WithoutMemory, after_text}
use Rattle.jc_session.specs.Answers.RunsTo.{at_eof, says, lists, ends, lacks}
use Rattle.jc_session.specs.Runs.{ending_of, is_end, has_end}

-- ---- runs joined

after_text-twice : (first second : List ℕ) (run : Run) → after_text first (after_text second run) ≡ after_text (first ++ second) run
after_text-twice first second run =
    ap (λ (text : List ℕ). let r : Run = record { text = text; held = run.held; source = run.source; ending = run.ending } in r) (sym (append_assoc first second run.text))

end_not_eof : {P : Type 0} → AtEnd ≡ AtEof → P
end_not_eof e = absurd cc

want_not_eof : {P : Type 0} → WithoutMemory ≡ AtEof → P
want_not_eof e = absurd cc

want_not_end : {P : Type 0} → WithoutMemory ≡ AtEnd → P
want_not_end e = absurd cc

eof_not_at_end : {P : Type 0} → AtEof ≡ AtEnd → P
eof_not_at_end e = absurd cc

-- lines that were all answered, and more lines behind them
pub joined : (more : List (List ℕ)) (later : Run) {h : Contents} {s : SourceAnswers} {lines : List (List ℕ)} {run : Run}
    → RunsTo h s lines run → run.ending ≡ AtEof → RunsTo run.held run.source more later → RunsTo h s (lines ++ more) (after_text run.text later)
joined more later (at_eof h s) e d = d
joined more later (says h g s t line lines text run owed rest) e d =
    subst (RunsTo h s (line ∷ (lines ++ more))) (after_text-twice text run.text later)
    (says h g s t line (lines ++ more) text (after_text run.text later) owed (joined more later rest e d))
joined more later (lists h s line lines text run owed rest) e d =
    subst (RunsTo h s (line ∷ (lines ++ more))) (after_text-twice text run.text later)
    (lists h s line (lines ++ more) text (after_text run.text later) owed (joined more later rest e d))
joined more later (ends h s line lines owed) e d = end_not_eof e
joined more later (lacks h s t line lines owed) e d = want_not_eof e

-- ---- so many lines

-- a run that goes on
abbrev pub run_so_far : (text : List ℕ) (held : Contents) (source : SourceAnswers) → Run
run_so_far text held source = record { text = text; held = held; source = source; ending = AtEof }

-- all the lines were answered
abbrev pub IsAnswered : Contents → SourceAnswers → List (List ℕ) → (text : List ℕ) (held : Contents) (source : SourceAnswers) → Type 0
IsAnswered h s lines text held source = RunsTo h s lines (run_so_far text held source)

pub answered_more : (h : Contents) (s : SourceAnswers) (lines : List (List ℕ)) (text : List ℕ) (held : Contents) (source : SourceAnswers) (line said : List ℕ) (new : Contents) (left : SourceAnswers)
    → IsAnswered h s lines text held source → IsAnswered held source (line ∷ []) said new left → IsAnswered h s (lines ++ line ∷ []) (text ++ said) new left
answered_more h s lines text held source line said new left owed one = joined (line ∷ []) (run_so_far said new left) owed refl one

-- ---- a line `end`

says_not_ends : {text : List ℕ} {h : Contents} {s : SourceAnswers} {P : Type 0} → Says text h s ≡ Ends → P
says_not_ends e = absurd cc

lists_not_ends : {text : List ℕ} {P : Type 0} → Lists text ≡ Ends → P
lists_not_ends e = absurd cc

lacks_not_ends : {s : SourceAnswers} {P : Type 0} → Lacks s ≡ Ends → P
lacks_not_ends e = absurd cc

judged_not_ends : (h : Contents) (s : SourceAnswers) (change : EditChange) (o : Option EditError) {P : Type 0} → judged_reply h s change o ≡ Ends → P
judged_not_ends h s change None e = says_not_ends e
judged_not_ends h s change (Some fault) e = says_not_ends e

told_not_ends : (h : Contents) (s : SourceAnswers) (path : List ℕ) (change : List ℕ → Change) (a : Result (List ℕ) SourceError) {P : Type 0} → told_reply h s path change a ≡ Ends → P
told_not_ends h s path change (Ok bytes) e = judged_not_ends h s (OfFiles (change bytes)) (judge_edit h (OfFiles (change bytes))) e
told_not_ends h s path change (Err sources.Unread) e = says_not_ends e
told_not_ends h s path change (Err sources.NoMemory) e = lacks_not_ends e

-- only `end` ends a run
ends_by : (h : Contents) (s : SourceAnswers) (command : Command) → Replies h s command Ends → is_end command ≡ true
ends_by h s (Add path) owed = told_not_ends h (drop 1 s) path (Adds path) (next_answer s path) (sym owed)
ends_by h s (Replace path) owed = told_not_ends h (drop 1 s) path (Replaces path) (next_answer s path) (sym owed)
ends_by h s (Remove path) owed = judged_not_ends h s (OfFiles (Removes path)) (judge_edit h (OfFiles (Removes path))) (sym owed)
ends_by h s (AddPrefix prefix) owed = judged_not_ends h s (OfPrefixes (AddsPrefix prefix)) (judge_edit h (OfPrefixes (AddsPrefix prefix))) (sym owed)
ends_by h s (DropPrefix prefix) owed = judged_not_ends h s (OfPrefixes (DropsPrefix prefix)) (judge_edit h (OfPrefixes (DropsPrefix prefix))) (sym owed)
ends_by h s Report owed = says_not_ends (sym owed.2)
ends_by h s (Part name) owed = says_not_ends (sym owed.2)
ends_by h s (Listing name) owed = lists_not_ends (sym owed)
ends_by h s (Dependants name) owed = says_not_ends (sym owed.2)
ends_by h s End owed = refl
ends_by h s Bad owed = says_not_ends (sym owed)

says_goes_on : (h : Contents) (s : SourceAnswers) (command : Command) (text : List ℕ) (g : Contents) (t : SourceAnswers) → Replies h s command (Says text g t) → is_end command ≡ false
says_goes_on h s (Add path) text g t owed = refl
says_goes_on h s (Replace path) text g t owed = refl
says_goes_on h s (Remove path) text g t owed = refl
says_goes_on h s (AddPrefix prefix) text g t owed = refl
says_goes_on h s (DropPrefix prefix) text g t owed = refl
says_goes_on h s Report text g t owed = refl
says_goes_on h s (Part name) text g t owed = refl
says_goes_on h s (Listing name) text g t owed = refl
says_goes_on h s (Dependants name) text g t owed = refl
says_goes_on h s End text g t owed = says_not_ends owed
says_goes_on h s Bad text g t owed = refl

lists_goes_on : (h : Contents) (s : SourceAnswers) (command : Command) (text : List ℕ) → Replies h s command (Lists text) → is_end command ≡ false
lists_goes_on h s (Add path) text owed = refl
lists_goes_on h s (Replace path) text owed = refl
lists_goes_on h s (Remove path) text owed = refl
lists_goes_on h s (AddPrefix prefix) text owed = refl
lists_goes_on h s (DropPrefix prefix) text owed = refl
lists_goes_on h s Report text owed = refl
lists_goes_on h s (Part name) text owed = refl
lists_goes_on h s (Listing name) text owed = refl
lists_goes_on h s (Dependants name) text owed = refl
lists_goes_on h s End text owed = lists_not_ends owed
lists_goes_on h s Bad text owed = refl

or_true : (b : Bool) → (b || true) ≡ true
or_true true = refl
or_true false = refl

at_end : {h : Contents} {s : SourceAnswers} {lines : List (List ℕ)} {run : Run} → RunsTo h s lines run → run.ending ≡ AtEnd → has_end lines ≡ true
at_end (at_eof h s) e = eof_not_at_end e
at_end (says h g s t line lines text run owed rest) e = ap (λ b. is_end (command_of line) || b) (at_end rest e) ∙ or_true (is_end (command_of line))
at_end (lists h s line lines text run owed rest) e = ap (λ b. is_end (command_of line) || b) (at_end rest e) ∙ or_true (is_end (command_of line))
at_end (ends h s line lines owed) e = ap (λ b. b || has_end lines) (ends_by h s (command_of line) owed)
at_end (lacks h s t line lines owed) e = want_not_end e

all_before : {h : Contents} {s : SourceAnswers} {lines : List (List ℕ)} {run : Run} → RunsTo h s lines run → run.ending ≡ AtEof → has_end lines ≡ false
all_before (at_eof h s) e = refl
all_before (says h g s t line lines text run owed rest) e =
    ap (λ b. b || has_end lines) (says_goes_on h s (command_of line) text g t owed) ∙ all_before rest e
all_before (lists h s line lines text run owed rest) e =
    ap (λ b. b || has_end lines) (lists_goes_on h s (command_of line) text owed) ∙ all_before rest e
all_before (ends h s line lines owed) e = end_not_eof e
all_before (lacks h s t line lines owed) e = want_not_eof e

false_not_true : (b : Bool) {P : Type 0} → b ≡ false → b ≡ true → P
false_not_true b isnt is = absurd (let h : false ≡ true = sym isnt ∙ is in cc)

eof_not_end : {P : Type 0} → ended.Eof ≡ ended.End → P
eof_not_end e = absurd cc

-- by which of its lines a run ends
pub by_end : (h : Contents) (s : SourceAnswers) (lines : List (List ℕ)) (run : Run) (how : Ended)
    → RunsTo h s lines run → run.ending ≡ ending_of how → (how ≡ ended.End) ↔ (has_end lines ≡ true)
by_end h s lines run ended.End d e = (λ _. at_end d e, λ _. refl)
by_end h s lines run ended.Eof d e = (λ is. eof_not_end is, λ yes. false_not_true (has_end lines) (all_before d e) yes)
