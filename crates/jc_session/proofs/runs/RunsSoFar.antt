-- A run over an input that is partly read: what was done so far, and what is owed for what is left.
use Rattle.std.proofs.Common.{◌≡◌, ◌≢◌, ◌∙◌, ◌++◌, ℕ, true, false, List, [], ◌∷◌, Option, Some, None, Result, Ok, Err, IfErr, refl, sym, ap, subst, append_assoc, append-nil, inr, arith}
use Rattle.std.proofs.lemmas.List.{take_all}
use Rattle.std.proofs.KnownBytes.{Appends-nil, Appends-trans, Appends-kept}
use Rattle.std.specs.Io.KnownBytes.{Appends, Keeps}
use Rattle.jc_session.specs.declared.answer.Next.{Next}
use Rattle.jc_session.specs.declared.answer.Next.TheVariants as next
use Rattle.jc_input.specs.declared.run_error.Ended.{Ended}
use Rattle.jc_input.specs.declared.run_error.Ended.TheVariants as ended
use Rattle.jc_input.specs.declared.run_error.RunError.{RunError}
use Rattle.jc_input.specs.declared.run_error.RunError.TheVariants as errors
use Rattle.jc_edits.specs.SessionState.{Contents}
use Rattle.jc_input.specs.Lines.{command_of, lines_of, whole_lines}
use Rattle.jc_input.specs.Sources.{SourceAnswers}
use Rattle.jc_session.specs.Answers.{Run, RunsTo}
use Rattle.jc_session.specs.Answers.RunsTo.{at_eof}
use Rattle.jc_session.specs.Runs.{EndsAs, StopsAtRead, LineMayLack, StopsAs, RunsAs}
use Rattle.jc_input.specs.LineReading.{LacksFeed, kept_of, bytes_left, TakesLine, LosesPart}
use Rattle.jc_session.specs.inside.Replies.{GivesLast, GivesOwed, next_of}
use Rattle.jc_input.proofs.cutting.LinesCut.{lines_of-feed, whole_lines-feed, lines_of-last, whole_lines-part, command_of-kept, kept-cons}
use Rattle.jc_session.proofs.runs.RunsOverLines.{IsAnswered, run_so_far, answered_more, by_end}
use Rattle.jc_session.proofs.runs.LineAnswered.{gave_line, line_ends, line_breaks, line_lacks, line_last}

pub record IsSoFar (h : Contents) (s : SourceAnswers) (bytes : List ℕ) (held : List ℕ) (coming : Option (List ℕ)) (answers : Option SourceAnswers) (state : Contents) (before now : Option (List ℕ)) : Type 0 where
  pub lines : List (List ℕ)
  pub front : List ℕ
  pub left : List ℕ
  pub text : List ℕ
  pub source : SourceAnswers
  pub known_left : bytes_left held coming ≡ Some left
  pub known : answers ≡ Some source
  pub split : bytes ≡ front ++ left
  pub cut : (rest : List ℕ) → lines_of (front ++ rest) ≡ lines ++ lines_of rest
  pub whole : (rest : List ℕ) → whole_lines (front ++ rest) ≡ lines ++ whole_lines rest
  pub said : Appends before now text
  pub owed : IsAnswered h s lines text state source

pub so_far_begins : (h : Contents) (s : SourceAnswers) (bytes : List ℕ) (coming : Option (List ℕ)) (answers : Option SourceAnswers) (before : Option (List ℕ))
    → coming ≡ Some bytes → answers ≡ Some s → IsSoFar h s bytes [] coming answers h before before
so_far_begins h s bytes coming answers before all known = record {
  lines = [];
  front = [];
  left = bytes;
  text = [];
  source = s;
  known_left = ap (bytes_left []) all;
  known = known;
  split = refl;
  cut = λ rest. refl;
  whole = λ rest. refl;
  said = Appends-nil before;
  owed = at_eof h s;
}

-- a line that an LF ends was taken
record IsTaken (old kept : List ℕ) (new : Option (List ℕ)) : Type 0 where
  pub line : List ℕ
  pub rest : List ℕ
  pub lacks : LacksFeed line
  pub split : old ≡ line ++ 10 ∷ rest
  pub same : command_of kept ≡ command_of line
  pub left : new ≡ Some rest

taken : (old kept : List ℕ) (new : Option (List ℕ)) → TakesLine (Some old) true kept new → IsTaken old kept new
taken old kept None takes = absurd takes
taken old kept (Some new) (line, lacks, split, is) = record {
  line = line;
  rest = new;
  lacks = lacks;
  split = split;
  same = ap command_of is ∙ command_of-kept line;
  left = refl;
}

joined : (front line rest : List ℕ) → (front ++ (line ++ 10 ∷ [])) ++ rest ≡ front ++ (line ++ 10 ∷ rest)
joined front line rest = append_assoc front (line ++ 10 ∷ []) rest ∙ ap (λ l. front ++ l) (append_assoc line (10 ∷ []) rest)

module _ (h : Contents) (s : SourceAnswers) (bytes : List ℕ) (held : List ℕ) (coming : Option (List ℕ)) (answers : Option SourceAnswers) (state : Contents) (before now : Option (List ℕ))
    (so_far : IsSoFar h s bytes held coming answers state before now) where
  take_next : (kept : List ℕ) (new : Option (List ℕ)) → TakesLine (bytes_left held coming) true kept new → IsTaken so_far.left kept new
  take_next kept new takes = taken so_far.left kept new (subst (λ o. TakesLine o true kept new) so_far.known_left takes)

  next_cut : (kept : List ℕ) (new : Option (List ℕ)) (t : IsTaken so_far.left kept new) → lines_of bytes ≡ so_far.lines ++ t.line ∷ lines_of t.rest
  next_cut kept new t =
      ap lines_of so_far.split ∙ so_far.cut so_far.left ∙ ap (λ l. so_far.lines ++ l) (ap lines_of t.split ∙ lines_of-feed t.line t.rest t.lacks)

  next_gives : (kept : List ℕ) (rest : Option (List ℕ)) (t : IsTaken so_far.left kept rest) (result : Result Next RunError) (new : Contents) (left : Option SourceAnswers) (later : Option (List ℕ))
      → ((u : SourceAnswers) → answers ≡ Some u → GivesOwed state u (command_of kept) result new left now later)
      → GivesOwed state so_far.source (command_of t.line) result new left now later
  next_gives kept rest t result new left later gives =
      subst (λ c. GivesOwed state so_far.source c result new left now later) t.same (gives so_far.source so_far.known)

  -- one more line was answered
  pub so_far_goes_on : (kept rest_held : List ℕ) (rest_coming : Option (List ℕ)) (new : Contents) (left : Option SourceAnswers) (later : Option (List ℕ))
      → TakesLine (bytes_left held coming) true kept (bytes_left rest_held rest_coming)
      → ((u : SourceAnswers) → answers ≡ Some u → GivesOwed state u (command_of kept) (Ok next.Line) new left now later)
      → IsSoFar h s bytes rest_held rest_coming left new before later
  so_far_goes_on kept rest_held rest_coming new left later takes gives =
      let t = take_next kept (bytes_left rest_held rest_coming) takes in
      let owed = next_gives kept (bytes_left rest_held rest_coming) t (Ok next.Line) new left later gives in
      let given = gave_line state so_far.source t.line owed.0 new left now later owed.1 owed.2 in
      let front = so_far.front ++ (t.line ++ 10 ∷ []) in
      record {
        lines = so_far.lines ++ t.line ∷ [];
        front = front;
        left = t.rest;
        text = so_far.text ++ given.0;
        source = given.2;
        known_left = t.left;
        known = given.5;
        split = so_far.split ∙ ap (λ l. so_far.front ++ l) t.split ∙ sym (joined so_far.front t.line t.rest);
        cut = λ rest. ap lines_of (joined so_far.front t.line rest) ∙ so_far.cut (t.line ++ 10 ∷ rest) ∙ ap (λ l. so_far.lines ++ l) (lines_of-feed t.line rest t.lacks)
            ∙ sym (append_assoc so_far.lines (t.line ∷ []) (lines_of rest));
        whole = λ rest. ap whole_lines (joined so_far.front t.line rest) ∙ so_far.whole (t.line ++ 10 ∷ rest) ∙ ap (λ l. so_far.lines ++ l) (whole_lines-feed t.line rest t.lacks)
            ∙ sym (append_assoc so_far.lines (t.line ∷ []) (whole_lines rest));
        said = Appends-trans before now later so_far.text given.0 so_far.said given.6;
        owed = subst (λ g. IsAnswered h s (so_far.lines ++ t.line ∷ []) (so_far.text ++ given.0) g given.2) (sym given.4)
            (answered_more h s so_far.lines so_far.text state so_far.source t.line given.0 given.1 given.2 so_far.owed given.3);
      }

  -- the line `end` was read
  pub so_far_ends : (kept : List ℕ) (rest : Option (List ℕ)) (new : Contents) (left : Option SourceAnswers) (later last : Option (List ℕ))
      → TakesLine (bytes_left held coming) true kept rest
      → ((u : SourceAnswers) → answers ≡ Some u → GivesOwed state u (command_of kept) (Ok next.Nothing) new left now later)
      → EndsAs h s bytes ended.End (record { held = new; source = left; coming = last; before = before; now = later })
  so_far_ends kept rest new left later last takes gives =
      let t = take_next kept rest takes in
      line_ends h s bytes so_far.lines t.line (lines_of t.rest) so_far.text state so_far.source (next_cut kept rest t) so_far.owed before now so_far.said new left last later
      (next_gives kept rest t (Ok next.Nothing) new left later gives)

  -- the output failed, or memory was refused, in the answer to a line
  pub so_far_stops : (kept : List ℕ) (rest : Option (List ℕ)) (e : RunError) (new : Contents) (left : Option SourceAnswers) (later last : Option (List ℕ)) → e ≢ errors.Read
      → TakesLine (bytes_left held coming) true kept rest
      → ((u : SourceAnswers) → answers ≡ Some u → GivesOwed state u (command_of kept) (Err e) new left now later)
      → ((u : SourceAnswers) → answers ≡ Some u → e ≡ errors.NoMemory → LineMayLack state u (command_of kept))
      → StopsAs h s bytes e (record { held = new; source = left; coming = last; before = before; now = later })
  so_far_stops kept rest errors.Read new left later last other takes gives lacks = absurd (other refl)
  so_far_stops kept rest errors.Write new left later last other takes gives lacks =
      let t = take_next kept rest takes in
      line_breaks h s bytes so_far.lines t.line (lines_of t.rest) so_far.text state so_far.source (next_cut kept rest t) so_far.owed before now so_far.said new left last later
      (next_gives kept rest t (Err errors.Write) new left later gives)
  so_far_stops kept rest errors.NoMemory new left later last other takes gives lacks =
      let t = take_next kept rest takes in
      inr (line_lacks h s bytes so_far.lines t.line (lines_of t.rest) so_far.text state so_far.source (next_cut kept rest t) so_far.owed before now so_far.said new left last later
      (subst (λ c. LineMayLack state so_far.source c) t.same (lacks so_far.source so_far.known refl))
      (next_gives kept rest t (Err errors.NoMemory) new left later gives))

  -- reading failed
  pub so_far_fails : (rest : Option (List ℕ)) → LosesPart (bytes_left held coming) rest
      → StopsAtRead h s bytes (record { held = state; source = answers; coming = rest; before = before; now = now })
  so_far_fails rest loses = by rest (subst (λ o. LosesPart o rest) so_far.known_left loses)
    where
      by : (rest : Option (List ℕ)) → LosesPart (Some so_far.left) rest → StopsAtRead h s bytes (record { held = state; source = answers; coming = rest; before = before; now = now })
      by None loses = absurd loses
      by (Some rest) (part, lacks, split) =
          let front = so_far.front ++ part in
          let lines : whole_lines front ≡ so_far.lines = so_far.whole part ∙ ap (λ l. so_far.lines ++ l) (whole_lines-part part lacks) ∙ append-nil so_far.lines in
          let run : Run = run_so_far so_far.text state so_far.source in (
            front,
            rest,
            run,
            so_far.split ∙ ap (λ l. so_far.front ++ l) split ∙ sym (append_assoc so_far.front part rest),
            refl,
            subst (λ l. RunsTo h s l run) (sym lines) so_far.owed,
            record { ends = refl; held = refl; source = so_far.known; text = so_far.said },
          )

  -- nothing stands behind the last LF
  pub so_far_eof : (new : Contents) (left : Option SourceAnswers) (later last : Option (List ℕ)) → so_far.left ≡ [] → new ≡ state → left ≡ Some so_far.source → Keeps now later
      → EndsAs h s bytes ended.Eof (record { held = new; source = left; coming = last; before = before; now = later })
  so_far_eof new left later last none same known keeps =
      let lines : lines_of bytes ≡ so_far.lines =
      ap lines_of so_far.split ∙ so_far.cut so_far.left ∙ ap (λ l. so_far.lines ++ lines_of l) none ∙ append-nil so_far.lines in
      let run : Run = run_so_far so_far.text state so_far.source in
      let runs : RunsTo h s (lines_of bytes) run = subst (λ l. RunsTo h s l run) (sym lines) so_far.owed in
      record {
        run = run;
        runs = runs;
        done = record { ends = refl; held = same; source = known; text = Appends-kept before now later so_far.text so_far.said keeps };
        by_end = by_end h s (lines_of bytes) run ended.Eof runs refl;
      }

  -- or a line that no LF ends
  so_far_rest : (x : ℕ) (line : List ℕ) (result : Result Ended RunError) (new : Contents) (left : Option SourceAnswers) (later last : Option (List ℕ)) → IfErr result (λ e. e ≢ errors.Read)
      → so_far.left ≡ x ∷ line → LacksFeed (x ∷ line)
      → GivesOwed state so_far.source (command_of (x ∷ line)) (next_of result) new left now later
      → (result ≡ Err errors.NoMemory → LineMayLack state so_far.source (command_of (x ∷ line)))
      → RunsAs h s bytes result (record { held = new; source = left; coming = last; before = before; now = later })
  so_far_rest x line result new left later last other is feed gives lacks =
      let cut = ap lines_of so_far.split ∙ so_far.cut so_far.left ∙ ap (λ l. so_far.lines ++ l) (ap lines_of is ∙ lines_of-last x line feed) in
      line_last h s bytes so_far.lines (x ∷ line) [] so_far.text state so_far.source cut so_far.owed before now so_far.said new left last later result other refl gives lacks

  so_far_left : (rest_left kept : List ℕ) (result : Result Ended RunError) (new : Contents) (left : Option SourceAnswers) (later last : Option (List ℕ)) → IfErr result (λ e. e ≢ errors.Read)
      → so_far.left ≡ rest_left → LacksFeed rest_left → kept ≡ kept_of rest_left
      → GivesLast state so_far.source kept result new left now later
      → (result ≡ Err errors.NoMemory → LineMayLack state so_far.source (command_of kept))
      → RunsAs h s bytes result (record { held = new; source = left; coming = last; before = before; now = later })
  so_far_left [] kept result new left later last other is feed same gives lacks =
      let none : kept ≡ [] = same ∙ take_all 8193 [] (omega arith) in
      let given = subst (λ k. GivesLast state so_far.source k result new left now later) none gives in
      subst (λ r. RunsAs h s bytes r (record { held = new; source = left; coming = last; before = before; now = later })) (sym given.0)
      (so_far_eof new left later last is given.1 given.2 given.3)
  so_far_left (x ∷ line) kept result new left later last other is feed same gives lacks =
      let some = kept-cons x line in
      let whole : kept ≡ some.0 ∷ some.1 = same ∙ some.2 in
      let asks : command_of (some.0 ∷ some.1) ≡ command_of (x ∷ line) = ap command_of (sym some.2) ∙ command_of-kept (x ∷ line) in
      so_far_rest x line result new left later last other is feed
      (subst (λ c. GivesOwed state so_far.source c (next_of result) new left now later) asks (subst (λ k. GivesLast state so_far.source k result new left now later) whole gives))
      (λ e. subst (λ c. LineMayLack state so_far.source c) (ap command_of same ∙ command_of-kept (x ∷ line)) (lacks e))

  -- what stands behind the last LF was answered, if it is a line
  pub so_far_last : (kept : List ℕ) (rest : Option (List ℕ)) (result : Result Ended RunError) (new : Contents) (left : Option SourceAnswers) (later last : Option (List ℕ)) → IfErr result (λ e. e ≢ errors.Read)
      → TakesLine (bytes_left held coming) false kept rest
      → ((u : SourceAnswers) → answers ≡ Some u → GivesLast state u kept result new left now later)
      → ((u : SourceAnswers) → answers ≡ Some u → result ≡ Err errors.NoMemory → LineMayLack state u (command_of kept))
      → RunsAs h s bytes result (record { held = new; source = left; coming = last; before = before; now = later })
  so_far_last kept None result new left later last other takes gives lacks =
      absurd (subst (λ o. TakesLine o false kept None) so_far.known_left takes)
  so_far_last kept (Some rest) result new left later last other takes gives lacks =
      let took = subst (λ o. TakesLine o false kept (Some rest)) so_far.known_left takes in
      so_far_left so_far.left kept result new left later last other refl took.0 took.2 (gives so_far.source so_far.known) (lacks so_far.source so_far.known)
