-- What the reply to one line gave, and how a run ends or stops there.
use Rattle.std.proofs.Common.{◌≡◌, ◌≢◌, ◌∙◌, ◌++◌, ℕ, List, [], ◌∷◌, Option, Some, Result, Ok, Err, IfErr, refl, sym, ap, subst, append-nil, take, inr}
use Rattle.std.proofs.KnownBytes.{Appends-trans, Appends-kept}
use Rattle.std.specs.Io.KnownBytes.{Appends, Keeps}
use Rattle.jc_session.specs.declared.answer.Next.TheVariants as next
use Rattle.jc_input.specs.declared.run_error.Ended.{Ended}
use Rattle.jc_input.specs.declared.run_error.Ended.TheVariants as ended
use Rattle.jc_input.specs.declared.run_error.RunError.{RunError}
use Rattle.jc_input.specs.declared.run_error.RunError.TheVariants as errors
use Rattle.jc_edits.specs.SessionState.{Contents}
use Rattle.jc_input.specs.Lines.{command_of, lines_of}
use Rattle.jc_input.specs.Sources.{SourceAnswers}
use Rattle.jc_session.specs.Answers.{Reply, Says, Lists, Ends, Lacks, Replies, Run, RunsTo, AtEnd, AtEof}
use Rattle.jc_session.specs.Answers.RunsTo.{at_eof, says, lists, ends}
use Rattle.jc_session.specs.Runs.{EndsAs, StopsAtWrite, BreaksOff, StopsForMemory, GivesUp, LineMayLack, RunsAs}
use Rattle.jc_session.specs.inside.Replies.{Gives, GivesOwed, next_of}
use Rattle.jc_session.proofs.runs.RunsOverLines.{IsAnswered, run_so_far, answered_more, joined, by_end}

-- the line was answered, and a run goes on behind it
pub gave_line : (h : Contents) (s : SourceAnswers) (line : List ℕ) (r : Reply) (new : Contents) (source : Option SourceAnswers) (before now : Option (List ℕ))
    → Replies h s (command_of line) r → Gives h s r (Ok next.Line) new source before now
    → (text : List ℕ) × (held : Contents) × (t : SourceAnswers) × IsAnswered h s (line ∷ []) text held t × (new ≡ held) × (source ≡ Some t) × Appends before now text
gave_line h s line (Says text held t) new source before now owed gives = (
  text,
  held,
  t,
  subst (λ z. IsAnswered h s (line ∷ []) z held t) (append-nil text) (says h held s t line [] text (run_so_far [] held t) owed (at_eof held t)),
  gives.0,
  gives.1,
  gives.2,
)
gave_line h s line (Lists text) new source before now owed gives = (
  text,
  h,
  s,
  subst (λ z. IsAnswered h s (line ∷ []) z h s) (append-nil text) (lists h s line [] text (run_so_far [] h s) owed (at_eof h s)),
  gives.0,
  gives.1,
  gives.2,
)
gave_line h s line Ends new source before now owed gives = absurd gives
gave_line h s line (Lacks t) new source before now owed gives = absurd gives

gave_nothing : (h : Contents) (s : SourceAnswers) (r : Reply) (new : Contents) (source : Option SourceAnswers) (before now : Option (List ℕ)) → Gives h s r (Ok next.Nothing) new source before now
    → (r ≡ Ends) × (new ≡ h) × (source ≡ Some s) × Keeps before now
gave_nothing h s (Says text held t) new source before now gives = absurd gives
gave_nothing h s (Lists text) new source before now gives = absurd gives
gave_nothing h s Ends new source before now gives = (refl, gives.0, gives.1, gives.2)
gave_nothing h s (Lacks t) new source before now gives = absurd gives

gave_front : (run : Run) (r : Reply) (new : Contents) (source : Option SourceAnswers) (coming before now later : Option (List ℕ)) → Appends before now run.text
    → Gives run.held run.source r (Err errors.Write) new source now later → BreaksOff r run (record { held = new; source = source; coming = coming; before = before; now = later })
gave_front run (Says said held t) new source coming before now later written gives =
    (gives.0, gives.1, (gives.2.0, gives.2.1, Appends-trans before now later run.text (take gives.2.0 said) written gives.2.2))
gave_front run (Lists said) new source coming before now later written gives =
    (gives.0, gives.1, (gives.2.0, gives.2.1, Appends-trans before now later run.text (take gives.2.0 said) written gives.2.2))
gave_front run Ends new source coming before now later written gives = absurd gives
gave_front run (Lacks t) new source coming before now later written gives = absurd gives

-- memory was refused
gave_up : (run : Run) (r : Reply) (new : Contents) (source : Option SourceAnswers) (coming before now later : Option (List ℕ)) → run.ending ≡ AtEof → Appends before now run.text
    → Gives run.held run.source r (Err errors.NoMemory) new source now later → GivesUp r run (record { held = new; source = source; coming = coming; before = before; now = later })
gave_up run (Says said held t) new source coming before now later goes written gives =
    record { ends = goes; held = gives.0; source = gives.1; text = Appends-kept before now later run.text written gives.2 }
gave_up run (Lists said) new source coming before now later goes written gives = (
  gives.2.0,
  gives.2.1,
  record { ends = goes; held = gives.0; source = gives.1; text = Appends-trans before now later run.text (take gives.2.0 said) written gives.2.2 },
)
gave_up run Ends new source coming before now later goes written gives = absurd gives
gave_up run (Lacks t) new source coming before now later goes written gives =
    record { ends = goes; held = gives.0; source = gives.1; text = Appends-kept before now later run.text written gives.2 }

-- ---- the line after them

module _ (h : Contents) (s : SourceAnswers) (bytes : List ℕ) (lines : List (List ℕ)) (line : List ℕ) (rest : List (List ℕ)) (text : List ℕ) (held : Contents) (source : SourceAnswers)
    (cut : lines_of bytes ≡ lines ++ line ∷ rest) (owed : IsAnswered h s lines text held source) (before now : Option (List ℕ)) (said : Appends before now text)
    (new : Contents) (left : Option SourceAnswers) (coming later : Option (List ℕ)) where
  pub line_ends : GivesOwed held source (command_of line) (Ok next.Nothing) new left now later
      → EndsAs h s bytes ended.End (record { held = new; source = left; coming = coming; before = before; now = later })
  line_ends (r, replies, gives) =
      let given = gave_nothing held source r new left now later gives in
      let run : Run = record { text = text ++ []; held = held; source = source; ending = AtEnd } in
      let runs : RunsTo h s (lines_of bytes) run =
      subst (λ l. RunsTo h s l run) (sym cut)
      (joined (line ∷ rest) (record { text = []; held = held; source = source; ending = AtEnd }) owed refl
      (ends held source line rest (subst (Replies held source (command_of line)) given.0 replies))) in
      record {
        run = run;
        runs = runs;
        done = record {
          ends = refl;
          held = given.1;
          source = given.2;
          text = subst (Appends before later) (sym (append-nil text)) (Appends-kept before now later text said given.3);
        };
        by_end = by_end h s (lines_of bytes) run ended.End runs refl;
      }

  pub line_is_last : rest ≡ [] → GivesOwed held source (command_of line) (Ok next.Line) new left now later
      → EndsAs h s bytes ended.Eof (record { held = new; source = left; coming = coming; before = before; now = later })
  line_is_last none (r, replies, gives) =
      let given = gave_line held source line r new left now later replies gives in
      let run : Run = run_so_far (text ++ given.0) given.1 given.2 in
      let runs : RunsTo h s (lines_of bytes) run =
      subst (λ l. RunsTo h s l run) (sym (cut ∙ ap (λ l. lines ++ line ∷ l) none))
      (answered_more h s lines text held source line given.0 given.1 given.2 owed given.3) in
      record {
        run = run;
        runs = runs;
        done = record {
          ends = refl;
          held = given.4;
          source = given.5;
          text = Appends-trans before now later text given.0 said given.6;
        };
        by_end = by_end h s (lines_of bytes) run ended.Eof runs refl;
      }

  pub line_breaks : GivesOwed held source (command_of line) (Err errors.Write) new left now later
      → StopsAtWrite h s bytes (record { held = new; source = left; coming = coming; before = before; now = later })
  line_breaks (r, replies, gives) =
      let run : Run = run_so_far text held source in
      (lines, line, rest, run, r, cut, owed, refl, replies, gave_front run r new left coming before now later said gives)

  pub line_lacks : LineMayLack held source (command_of line) → GivesOwed held source (command_of line) (Err errors.NoMemory) new left now later
      → StopsForMemory h s bytes (record { held = new; source = left; coming = coming; before = before; now = later })
  line_lacks may (r, replies, gives) =
      let run : Run = run_so_far text held source in
      (lines, line, rest, run, r, cut, owed, replies, gave_up run r new left coming before now later refl said gives, may)

  pub line_last : (result : Result Ended RunError) → IfErr result (λ e. e ≢ errors.Read) → rest ≡ [] → GivesOwed held source (command_of line) (next_of result) new left now later
      → (result ≡ Err errors.NoMemory → LineMayLack held source (command_of line))
      → RunsAs h s bytes result (record { held = new; source = left; coming = coming; before = before; now = later })
  line_last (Ok ended.Eof) other none gives lacks = line_is_last none gives
  line_last (Ok ended.End) other none gives lacks = line_ends gives
  line_last (Err errors.Read) other none gives lacks = absurd (other refl)
  line_last (Err errors.Write) other none gives lacks = line_breaks gives
  line_last (Err errors.NoMemory) other none gives lacks = inr (line_lacks (lacks refl) gives)
