-- The outcome of a file as data: the name of its class, or why the file is refused.
use Rattle.std.specs.Prelude.{ℕ, List, Result, Ok, Err}
use Rattle.std.specs.Borrow.{Bor}
use Rattle.std.specs.declared.vec.Vec.{Vec}
use Rattle.jc_view.specs.declared.parse_error.ParseError.{ParseError}

-- an outcome that owns the name, as data
abbrev pub outcome_held : {A : Type 0} → Result (Vec ℕ A) ParseError → Result (List ℕ) ParseError
outcome_held (Ok name) = Ok name.items
outcome_held (Err refusal) = Err refusal

-- an outcome that borrows the name, as data
abbrev pub outcome_lent : Result (Bor (List ℕ)) ParseError → Result (List ℕ) ParseError
outcome_lent (Ok name) = Ok name.now
outcome_lent (Err refusal) = Err refusal
