-- The error of an edit that is refused.
use Rattle.std.specs.Prelude.{◌≡◌, MatchResult, Option, Some, None, Result}
use Rattle.jc_input.specs.declared.edit.EditError.{EditError}
use Rattle.jc_input.specs.declared.edit.EditError.TheVariants as errors

-- `judged` is the first refusal that applies; the error is this refusal, or NoMemory if none applies
abbrev pub IsJudged : EditError → Option EditError → Type 0
IsJudged errors.NoMemory judged = judged ≡ None
IsJudged e judged = judged ≡ Some e

-- the result of an edit is Ok only if no refusal applies; if it is an error, the error is as above
abbrev pub IsAnswered : {T : Type 0} → Result T EditError → (judged : Option EditError) → Type 0
IsAnswered result judged = MatchResult result (λ _. judged ≡ None) (λ e. IsJudged e judged)
