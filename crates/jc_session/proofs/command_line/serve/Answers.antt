use Rattle.std.proofs.Common.{◌∙◌, List, ℕ, Err, ap, refl, subst, inl}
use Rattle.std.proofs.KnownBytes.{Keeps-refl}
use Rattle.std.proofs.lemmas.Result.{err_from_is_err_and}
use Rattle.jc_input.specs.declared.run_error.RunError.TheVariants as errors
use Rattle.jc_edits.specs.SessionState.{Contents, contents_of}
use Rattle.jc_session.specs.Runs.{Left, RunsAs}
use Rattle.jc_input.specs.Sources.{SourceAnswers}
use Rattle.jc_session.specs.Statuses.{begun}
use Rattle.jc_session.specs.inside.LentFaults.{outcome_lent}
use Rattle.jc_session.proofs.runs.ByAnswers.{not_begun}
use Rattle.jc_session.proofs.command_line.serve.Goals as goal

pub returns-in_err-session-clause-runs : goal.returns-in_err-session-clause-runs
returns-in_err-session-clause-runs g c =
    let exit = err_from_is_err_and c.from_residual.result c.from_residual.ensures.1 in (
      Err errors.NoMemory,
      begun c.args.outside,
      ap outcome_lent exit.1 ∙ ap Err exit.2,
      λ bytes s all known. inl (record {
        held = refl;
        source = known;
        coming = all;
        kept = Keeps-refl (g.W.Output.written c.args.out.now);
      }),
      λ bytes all. not_begun (begun c.args.outside) bytes (g.R.Input.remaining c.args.input.now) (g.W.Output.written c.args.out.now) all,
    )

pub returns-in_err-session-clause-reads : goal.returns-in_err-session-clause-reads
returns-in_err-session-clause-reads g c =
    let exit = err_from_is_err_and c.from_residual.result c.from_residual.ensures.1 in
    rw (exit.1, exit.2) refl

pub returns-in_err-session-clause-writes : goal.returns-in_err-session-clause-writes
returns-in_err-session-clause-writes g c =
    let exit = err_from_is_err_and c.from_residual.result c.from_residual.ensures.1 in
    rw (exit.1, exit.2) refl

pub returns-clause-runs : goal.returns-clause-runs
returns-clause-runs g c =
    let none = ap contents_of c.in_ok-session.ensures in
    let did = c.run_through.ensures.runs in
    let as_begun : (s : SourceAnswers) → (bytes : List ℕ) → (left : Left) → RunsAs (contents_of c.in_ok-session.session) s bytes did.0 left → RunsAs (begun c.args.outside) s bytes did.0 left =
    λ s bytes left runs. subst (λ (h : Contents). RunsAs h s bytes did.0 left) none runs in (
      did.0,
      did.1,
      did.2,
      λ bytes s all known. as_begun s bytes _ (did.3 bytes s all known),
      λ bytes all. let by = did.4 bytes all in (by.0, as_begun by.0 bytes _ by.1),
    )
