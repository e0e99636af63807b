use Rattle.std.proofs.Common.{◌≡◌, ◌∙◌, Err, ap, sym, refl, arith}
use Rattle.std.proofs.lemmas.Result.{err_from_is_err_and}
use Rattle.jc_input.specs.Lines.{command_of}
use Rattle.jc_input.specs.LentCommands.{command_lent}
use Rattle.jc_edits.specs.SessionState.{contents_of}
use Rattle.jc_session.proofs.runs.RunsSoFar.{so_far_begins, so_far_goes_on, so_far_ends, so_far_stops, so_far_fails, so_far_last}
use Rattle.jc_session.proofs.runs.ByAnswers.{by_answers_begins, by_answers_goes_on, by_answers_ends, by_answers_stops, by_answers_fails, by_answers_last, not_begun}
use Rattle.jc_session.proofs.line_session.run.Goals as goal

pub loop-line-init : goal.loop-line-init
loop-line-init g c = record {
  so_far = λ bytes s all known. rw c.new-ahead.ensures (so_far_begins _ _ _ _ _ _ all known);
  by_answers = λ bytes all. rw c.new-ahead.ensures (by_answers_begins _ _ _ _ all);
  asks_rise = omega arith;
  made_rise = omega arith;
  ended = λ h. refl;
  reads = refl;
  writes = refl;
}

pub returns-in_err-read_line-clause-runs : goal.returns-in_err-read_line-clause-runs
returns-in_err-read_line-clause-runs g c bytes s all known =
    let exit = err_from_is_err_and c.from_residual-in_err-read_line.result c.from_residual-in_err-read_line.ensures.1 in
    let fails = so_far_fails _ _ _ _ _ _ _ _ _ (c.loop-line.invariant.so_far bytes s all known) _ c.in_err-read_line.ensures.loses in
    rw (exit.1, exit.2, c.in_err-read_line.ensures.err) fails

pub returns-in_err-answer-clause-runs : goal.returns-in_err-answer-clause-runs
returns-in_err-answer-clause-runs g c bytes s all known =
    let exit = err_from_is_err_and c.from_residual-in_err-answer.result c.from_residual-in_err-answer.ensures.1 in
    let same : command_lent c.parse_line.result ≡ command_of c.read_line.new.line = c.parse_line.ensures ∙ ap command_of c.bytes.ensures in
    let takes = rw c.if-branch.true at c.in_ok-read_line.ensures.takes in
    let stops = so_far_stops _ _ _ _ _ _ _ _ _ (c.loop-line.invariant.so_far bytes s all known) c.read_line.new.line _ c.in_err-answer.field-0.0 (contents_of c.answer.new.session)
    (g.S.Source.answers c.answer.new.source) (g.W.Output.written c.answer.new.out) (g.R.Input.remaining c.read_line.new.input) c.in_err-answer.ensures.err takes
    (λ u left. rw (sym same) (c.in_err-answer.ensures.gives u left)) (λ u left lacks. rw (sym same) (c.in_err-answer.ensures.lacks u left (ap Err lacks))) in
    rw (exit.1, exit.2) stops

pub loop-line-preserved : goal.loop-line-preserved
loop-line-preserved g c =
    let at = c.loop-line.invariant in
    let same : command_lent c.parse_line.result ≡ command_of c.read_line.new.line = c.parse_line.ensures ∙ ap command_of c.bytes.ensures in
    let takes = rw c.if-branch.true at c.in_ok-read_line.ensures.takes in
    record {
      so_far = λ bytes s all known.
          so_far_goes_on _ _ _ _ _ _ _ _ _ (at.so_far bytes s all known) c.read_line.new.line c.read_line.new.ahead (g.R.Input.remaining c.read_line.new.input) _ _ _ takes
          (λ u left. rw (sym same) (rw c.in-Line.is at (c.in_ok-answer.ensures.gives u left)));
      by_answers = λ bytes all.
          by_answers_goes_on _ _ _ _ _ _ _ (at.by_answers bytes all) c.read_line.new.line c.read_line.new.ahead (g.R.Input.remaining c.read_line.new.input) _ _ takes
          (rw (sym same) (rw c.in-Line.is at c.in_ok-answer.ensures.any));
      asks_rise = omega (arith, at.asks_rise, c.answer.ensures.asks_rise);
      made_rise = omega (arith, at.made_rise, c.answer.ensures.made_rise);
      ended = λ h. c.read_line.ensures.ended (ap g.R.Input.ended (at.ended h) ∙ h) ∙ at.ended h;
      reads = c.in_ok-read_line.ensures.failures ∙ at.reads;
      writes = c.in_ok-answer.ensures.failures ∙ at.writes;
    }

pub returns-in-Nothing-clause-runs : goal.returns-in-Nothing-clause-runs
returns-in-Nothing-clause-runs g c bytes s all known =
    let same : command_lent c.parse_line.result ≡ command_of c.read_line.new.line = c.parse_line.ensures ∙ ap command_of c.bytes.ensures in
    let takes = rw c.if-branch.true at c.in_ok-read_line.ensures.takes in
    so_far_ends _ _ _ _ _ _ _ _ _ (c.loop-line.invariant.so_far bytes s all known) c.read_line.new.line _ _ _ _ _ takes
    (λ u left. rw (sym same) (rw c.in-Nothing.is at (c.in_ok-answer.ensures.gives u left)))

pub returns-clause-runs : goal.returns-clause-runs
returns-clause-runs g c bytes s all known =
    let takes = rw c.if-branch.false at c.in_ok-read_line.ensures.takes in
    so_far_last _ _ _ _ _ _ _ _ _ (c.loop-line.invariant.so_far bytes s all known) c.read_line.new.line _ _ _ _ _ _ c.answer_last.ensures.err takes
    (λ u left. rw (sym c.bytes-2.ensures) (c.answer_last.ensures.gives u left)) (λ u left lacks. rw (sym c.bytes-2.ensures) (c.answer_last.ensures.lacks u left lacks))

-- ---- the same of any source

pub returns-in_err-line-clause-by_answers : goal.returns-in_err-line-clause-by_answers
returns-in_err-line-clause-by_answers g c bytes all =
    let exit = err_from_is_err_and c.from_residual.result c.from_residual.ensures.1 in
    rw (exit.1, exit.2) (not_begun (contents_of c.args.session.now) bytes (g.R.Input.remaining c.args.input.now) (g.W.Output.written c.args.out.now) all)

pub returns-in_err-read_line-clause-by_answers : goal.returns-in_err-read_line-clause-by_answers
returns-in_err-read_line-clause-by_answers g c bytes all =
    let exit = err_from_is_err_and c.from_residual-in_err-read_line.result c.from_residual-in_err-read_line.ensures.1 in
    let fails = by_answers_fails _ _ _ _ _ _ _ (c.loop-line.invariant.by_answers bytes all) _ c.in_err-read_line.ensures.loses in
    rw (exit.1, exit.2, c.in_err-read_line.ensures.err) fails

pub returns-in_err-answer-clause-by_answers : goal.returns-in_err-answer-clause-by_answers
returns-in_err-answer-clause-by_answers g c bytes all =
    let exit = err_from_is_err_and c.from_residual-in_err-answer.result c.from_residual-in_err-answer.ensures.1 in
    let same : command_lent c.parse_line.result ≡ command_of c.read_line.new.line = c.parse_line.ensures ∙ ap command_of c.bytes.ensures in
    let takes = rw c.if-branch.true at c.in_ok-read_line.ensures.takes in
    let stops = by_answers_stops _ _ _ _ _ _ _ (c.loop-line.invariant.by_answers bytes all) c.read_line.new.line _ c.in_err-answer.field-0.0 (contents_of c.answer.new.session)
    (g.W.Output.written c.answer.new.out) (g.R.Input.remaining c.read_line.new.input) c.in_err-answer.ensures.err takes (rw (sym same) c.in_err-answer.ensures.any) in
    rw (exit.1, exit.2) stops

pub returns-in-Nothing-clause-by_answers : goal.returns-in-Nothing-clause-by_answers
returns-in-Nothing-clause-by_answers g c bytes all =
    let same : command_lent c.parse_line.result ≡ command_of c.read_line.new.line = c.parse_line.ensures ∙ ap command_of c.bytes.ensures in
    let takes = rw c.if-branch.true at c.in_ok-read_line.ensures.takes in
    by_answers_ends _ _ _ _ _ _ _ (c.loop-line.invariant.by_answers bytes all) c.read_line.new.line _ _ _ _ takes (rw (sym same) (rw c.in-Nothing.is at c.in_ok-answer.ensures.any))

pub returns-clause-by_answers : goal.returns-clause-by_answers
returns-clause-by_answers g c bytes all =
    let takes = rw c.if-branch.false at c.in_ok-read_line.ensures.takes in
    by_answers_last _ _ _ _ _ _ _ (c.loop-line.invariant.by_answers bytes all) c.read_line.new.line _ _ _ _ _ c.answer_last.ensures.err takes
    (rw (sym c.bytes-2.ensures) c.answer_last.ensures.any)
