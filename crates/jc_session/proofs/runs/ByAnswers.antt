-- A run by the answers that its source gave, whatever the source is.
use Rattle.std.proofs.Common.{◌≡◌, ◌≢◌, ◌∙◌, ◌++◌, ◌==◌, true, false, length, ℕ, List, [], ◌∷◌, Option, None, Some, Result, Ok, Err, IfErr, OnOk, OnErr, refl, sym, ap, subst, append_assoc, inl}
use Rattle.std.specs.Io.KnownBytes.{Appends}
use Rattle.std.proofs.KnownBytes.{Keeps-refl}
use Rattle.jc_base.specs.Device.{WritesFront}
use Rattle.jc_session.specs.declared.answer.Next.{Next}
use Rattle.jc_session.specs.declared.answer.Next.TheVariants as next
use Rattle.jc_input.specs.declared.run_error.Ended.{Ended}
use Rattle.jc_input.specs.declared.run_error.Ended.TheVariants as ended
use Rattle.jc_input.specs.declared.run_error.RunError.{RunError}
use Rattle.jc_input.specs.declared.run_error.RunError.TheVariants as errors
use Rattle.jc_edits.specs.SessionState.{Contents}
use Rattle.jc_input.specs.Changes.{EditChange}
use Rattle.jc_edits.specs.Edits.{judge_edit}
use Rattle.jc_input.specs.Lines.{Command, command_of}
use Rattle.jc_input.specs.Sources.{SourceAnswers}
use Rattle.jc_session.specs.Answers.{Reply, Says, Replies, edit_reply}
use Rattle.jc_session.specs.Runs.{LineMayLack, EndsAs, StopsAs, StopsAtRead, RunsAs}
use Rattle.jc_input.specs.LineReading.{bytes_left, TakesLine, LosesPart}
use Rattle.jc_session.specs.inside.Replies.{Gives, GivesOwed, GivesLast, GivesByAnswers, GivesLastByAnswers, GivesByReply, said_by, next_of}
use Rattle.jc_session.proofs.runs.RunsSoFar.{IsSoFar, so_far_begins, so_far_goes_on, so_far_ends, so_far_stops, so_far_fails, so_far_last}

-- ---- one line

-- a text that was written, or not whole
pub said_gives : {E : Type 0} (r : Result (Unit {0}) E) (h : Contents) (s : SourceAnswers) (text : List ℕ) (state : Contents) (t : SourceAnswers) (before after : Option (List ℕ))
    → OnOk r (Appends before after text) → OnErr r (WritesFront before after text) → Gives h s (Says text state t) (said_by r) state (Some t) before after
said_gives (Ok done) h s text state t before after whole front = (refl, refl, whole)
said_gives (Err fault) h s text state t before after whole front = (refl, refl, front)

pub said_not_lacks : {E P : Type 0} (r : Result (Unit {0}) E) → said_by r ≡ Err errors.NoMemory → P
said_not_lacks (Ok done) e = absurd cc
said_not_lacks (Err fault) e = absurd cc

-- a line that is owed a text and changes nothing
pub said_owed : {E : Type 0} (r : Result (Unit {0}) E) (result : Result Next RunError) (h : Contents) (command : Command) (text : List ℕ) (before after : Option (List ℕ))
    → ((s : SourceAnswers) → Replies h s command (Says text h s)) → result ≡ said_by r → OnOk r (Appends before after text) → OnErr r (WritesFront before after text)
    → (s : SourceAnswers) → GivesOwed h s command result h (Some s) before after
said_owed r result h command text before after owed is whole front s =
    (Says text h s, owed s, subst (λ x. Gives h s (Says text h s) x h (Some s) before after) (sym is) (said_gives r h s text h s before after whole front))

-- with no answer of the source
pub said_by_none : {E : Type 0} (r : Result (Unit {0}) E) (result : Result Next RunError) (h : Contents) (command : Command) (text : List ℕ) (before after : Option (List ℕ))
    → ((s : SourceAnswers) → Replies h s command (Says text h s)) → result ≡ said_by r → OnOk r (Appends before after text) → OnErr r (WritesFront before after text)
    → GivesByAnswers h command result h before after
said_by_none r result h command text before after owed is whole front =
    ([], λ later. (said_owed r result h command text before after owed is whole front later, λ e. said_not_lacks r (sym is ∙ e)))

-- a line that is owed one reply
pub owed_by_reply : (h : Contents) (command : Command) (reply_by : SourceAnswers → Reply) (may_lack_by : SourceAnswers → Type 0) (result : Result Next RunError) (new : Contents) (before after : Option (List ℕ))
    → ((s : SourceAnswers) → Replies h s command (reply_by s)) → ((s : SourceAnswers) → may_lack_by s → LineMayLack h s command)
    → GivesByReply h reply_by may_lack_by result new before after → GivesByAnswers h command result new before after
owed_by_reply h command reply_by may_lack_by result new before after owed may gives = (
  gives.0,
  λ later. (
    (reply_by (gives.0 ++ later), owed (gives.0 ++ later), (gives.1 later).0),
    λ e. may (gives.0 ++ later) ((gives.1 later).1 e),
  ),
)

-- a line that is owed the reply to an edit
pub edit_owed : (h g : Contents) (command : Command) (change : EditChange) (result : Result Next RunError) (before after : Option (List ℕ))
    → ((s : SourceAnswers) → Replies h s command (edit_reply h s change)) → ((s : SourceAnswers) → judge_edit h change ≡ None → LineMayLack h s command)
    → ((s t : SourceAnswers) → Gives h s (edit_reply h t change) result g (Some t) before after) → (result ≡ Err errors.NoMemory → judge_edit h change ≡ None)
    → GivesByAnswers h command result g before after
edit_owed h g command change result before after owed may gives lacks =
    ([], λ later. ((edit_reply h later change, owed later, gives later later), λ e. may later (lacks e)))

-- a last line
pub last_gives : (h : Contents) (line : List ℕ) → (length line == 0) ≡ false → (result : Result Ended RunError) (new : Contents) (before after : Option (List ℕ))
    → GivesByAnswers h (command_of line) (next_of result) new before after → GivesLastByAnswers h line result new before after
last_gives h [] some result new before after gives = absurd cc
last_gives h (x ∷ line) some result new before after gives = (gives.0, λ later. ((gives.1 later).0, λ e. (gives.1 later).1 (ap next_of e)))

-- ---- so many lines

-- some answers were given so far, and with any later ones so much was done
abbrev pub IsSoFarByAnswers : Contents → List ℕ → (held : List ℕ) (coming : Option (List ℕ)) (state : Contents) (before now : Option (List ℕ)) → Type 0
IsSoFarByAnswers h bytes held coming state before now =
    (given : SourceAnswers) × ((later : SourceAnswers) → IsSoFar h (given ++ later) bytes held coming (Some later) state before now)

pub by_answers_begins : (h : Contents) (bytes : List ℕ) (coming : Option (List ℕ)) (before : Option (List ℕ)) → coming ≡ Some bytes → IsSoFarByAnswers h bytes [] coming h before before
by_answers_begins h bytes coming before all = ([], λ later. so_far_begins h later bytes coming (Some later) before all refl)

-- the answers known are those given next
known : (u v : SourceAnswers) → Some u ≡ Some v → u ≡ v
known u v e = cc

module _ (h : Contents) (bytes : List ℕ) (held : List ℕ) (coming : Option (List ℕ)) (state : Contents) (before now : Option (List ℕ)) (so_far : IsSoFarByAnswers h bytes held coming state before now) where
  -- with the answers to this line too
  with : (given later : SourceAnswers) → IsSoFar h ((so_far.0 ++ given) ++ later) bytes held coming (Some (given ++ later)) state before now
  with given later = subst (λ s. IsSoFar h s bytes held coming (Some (given ++ later)) state before now) (sym (append_assoc so_far.0 given later)) (so_far.1 (given ++ later))

  pub by_answers_goes_on : (kept rest_held : List ℕ) (rest_coming : Option (List ℕ)) (new : Contents) (later_text : Option (List ℕ))
      → TakesLine (bytes_left held coming) true kept (bytes_left rest_held rest_coming)
      → GivesByAnswers state (command_of kept) (Ok next.Line) new now later_text
      → IsSoFarByAnswers h bytes rest_held rest_coming new before later_text
  by_answers_goes_on kept rest_held rest_coming new later_text takes gives = (
    so_far.0 ++ gives.0,
    λ later.
        so_far_goes_on h ((so_far.0 ++ gives.0) ++ later) bytes held coming (Some (gives.0 ++ later)) state before now (with gives.0 later) kept rest_held rest_coming new (Some later) later_text takes
        (λ u e. subst (λ v. GivesOwed state v (command_of kept) (Ok next.Line) new (Some later) now later_text) (known (gives.0 ++ later) u e) (gives.1 later).0),
  )

  pub by_answers_ends : (kept : List ℕ) (rest : Option (List ℕ)) (new : Contents) (later_text last : Option (List ℕ))
      → TakesLine (bytes_left held coming) true kept rest
      → GivesByAnswers state (command_of kept) (Ok next.Nothing) new now later_text
      → (s : SourceAnswers) × EndsAs h s bytes ended.End (record { held = new; source = Some []; coming = last; before = before; now = later_text })
  by_answers_ends kept rest new later_text last takes gives = (
    (so_far.0 ++ gives.0) ++ [],
    so_far_ends h ((so_far.0 ++ gives.0) ++ []) bytes held coming (Some (gives.0 ++ [])) state before now (with gives.0 []) kept rest new (Some []) later_text last takes
        (λ u e. subst (λ v. GivesOwed state v (command_of kept) (Ok next.Nothing) new (Some []) now later_text) (known (gives.0 ++ []) u e) (gives.1 []).0),
  )

  pub by_answers_stops : (kept : List ℕ) (rest : Option (List ℕ)) (e : RunError) (new : Contents) (later_text last : Option (List ℕ)) → e ≢ errors.Read
      → TakesLine (bytes_left held coming) true kept rest
      → GivesByAnswers state (command_of kept) (Err e) new now later_text
      → (s : SourceAnswers) × StopsAs h s bytes e (record { held = new; source = Some []; coming = last; before = before; now = later_text })
  by_answers_stops kept rest e new later_text last other takes gives = (
    (so_far.0 ++ gives.0) ++ [],
    so_far_stops h ((so_far.0 ++ gives.0) ++ []) bytes held coming (Some (gives.0 ++ [])) state before now (with gives.0 []) kept rest e new (Some []) later_text last other takes
        (λ u p. subst (λ v. GivesOwed state v (command_of kept) (Err e) new (Some []) now later_text) (known (gives.0 ++ []) u p) (gives.1 []).0)
        (λ u p q. subst (λ v. LineMayLack state v (command_of kept)) (known (gives.0 ++ []) u p) ((gives.1 []).1 (ap Err q))),
  )

  pub by_answers_fails : (rest : Option (List ℕ)) → LosesPart (bytes_left held coming) rest
      → (s : SourceAnswers) × StopsAtRead h s bytes (record { held = state; source = Some []; coming = rest; before = before; now = now })
  by_answers_fails rest loses = (so_far.0 ++ [], so_far_fails h (so_far.0 ++ []) bytes held coming (Some []) state before now (so_far.1 []) rest loses)

  pub by_answers_last : (kept : List ℕ) (rest : Option (List ℕ)) (result : Result Ended RunError) (new : Contents) (later_text last : Option (List ℕ)) → IfErr result (λ e. e ≢ errors.Read)
      → TakesLine (bytes_left held coming) false kept rest
      → GivesLastByAnswers state kept result new now later_text
      → (s : SourceAnswers) × RunsAs h s bytes result (record { held = new; source = Some []; coming = last; before = before; now = later_text })
  by_answers_last kept rest result new later_text last other takes gives = (
    (so_far.0 ++ gives.0) ++ [],
    so_far_last h ((so_far.0 ++ gives.0) ++ []) bytes held coming (Some (gives.0 ++ [])) state before now (with gives.0 []) kept rest result new (Some []) later_text last other takes
        (λ u p. subst (λ v. GivesLast state v kept result new (Some []) now later_text) (known (gives.0 ++ []) u p) (gives.1 []).0)
        (λ u p q. subst (λ v. LineMayLack state v (command_of kept)) (known (gives.0 ++ []) u p) ((gives.1 []).1 q)),
  )

-- nothing was begun, with no answer
pub not_begun : (h : Contents) (bytes : List ℕ) (coming before : Option (List ℕ)) → coming ≡ Some bytes
    → (s : SourceAnswers) × RunsAs h s bytes (Err errors.NoMemory) (record { held = h; source = Some []; coming = coming; before = before; now = before })
not_begun h bytes coming before all = ([], inl (record { held = refl; source = refl; coming = all; kept = Keeps-refl before }))
