-- The answers of a source.
use Rattle.std.specs.Prelude.{◌≡◌, ℕ, List, [], ◌∷◌, drop, Option, Some, None, Result, Ok, Err, ⊤}
use Rattle.std.specs.declared.vec.Vec.{Vec}
use Rattle.std.specs.Global.{Global}
use Rattle.jc_input.specs.declared.source.SourceError.{SourceError}
use Rattle.jc_input.specs.declared.source.SourceError.TheVariants as errors

abbrev pub source_error_code : SourceError → ℕ
source_error_code errors.Unread = 1
source_error_code errors.NoMemory = 2

-- the answers to the next calls of a source, in order, each a function of the path
abbrev pub SourceAnswers : Type 0
SourceAnswers = List (List ℕ → Result (List ℕ) SourceError)

-- the next answer for a path; Unread if none is left
abbrev pub next_answer : SourceAnswers → List ℕ → Result (List ℕ) SourceError
next_answer [] path = Err errors.Unread
next_answer (answer ∷ answers) path = answer path

-- the same answer for every path
abbrev pub by_any_path : Result (List ℕ) SourceError → List ℕ → Result (List ℕ) SourceError
by_any_path answer path = answer

-- an answer, with its bytes as data
abbrev pub answer_of : Result (Vec ℕ Global) SourceError → Result (List ℕ) SourceError
answer_of (Ok bytes) = Ok bytes.items
answer_of (Err e) = Err e

-- the source returned its next answer for the path, if its answers are known
abbrev pub TakesAnswer : Option SourceAnswers → (path : List ℕ) → Result (List ℕ) SourceError → Option SourceAnswers → Type 0
TakesAnswer None path answer new = ⊤
TakesAnswer (Some answers) path answer new = (answer ≡ next_answer answers path) × (new ≡ Some (drop 1 answers))
