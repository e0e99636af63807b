-- What a run does to its devices.
use Rattle.std.specs.Prelude.{ℕ, List, [], Option, Some, Result}
use Rattle.jc_input.specs.declared.run_error.Ended.{Ended}
use Rattle.jc_input.specs.declared.run_error.RunError.{RunError}
use Rattle.jc_input.specs.Sources.{SourceAnswers}
use Rattle.jc_edits.specs.SessionState.{Contents}
use Rattle.jc_session.specs.Runs.{RunsByAnswers, RunsFrom, left_by}
use Rattle.jc_session.specs.Statuses.{IsOutcome, Outcome}

-- a run from these files and prefixes had this outcome for some answers of its source. If the source's answers to come
-- are known, it had this outcome for them. Functions return the source's answers to come, the input's bytes to come,
-- and the output's bytes
abbrev pub Serves : {S R W : Type 0} → (S → Option SourceAnswers) → (R → Option (List ℕ)) → (W → Option (List ℕ)) → Contents → Outcome
    → (source source_now : S) (input input_now : R) (out out_now : W) → Type 0
Serves answers remaining written h outcome source source_now input input_now out out_now =
    (ending : Result Ended RunError) × (held : Contents) × IsOutcome ending held outcome
    × RunsFrom h (answers source) (remaining input) ending
    (left_by held (answers source_now) (remaining input_now) (written out) (written out_now))
    × RunsByAnswers h (remaining input) ending (left_by held (Some []) (remaining input_now) (written out) (written out_now))
