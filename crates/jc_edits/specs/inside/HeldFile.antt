-- The name of the class in a file of a session, or its refusal, without vectors and references.
use Rattle.std.specs.Prelude.{ℕ, List, Option, Some, None, Result, Ok, Err}
use Rattle.std.specs.Borrow.{Bor}
use Rattle.std.specs.declared.vec.Vec.{Vec}
use Rattle.jc_view.specs.declared.parse_error.ParseError.{ParseError}

abbrev pub class_held : {A : Type 0} → Result (Vec ℕ A) ParseError → Result (List ℕ) ParseError
class_held (Ok name) = Ok name.items
class_held (Err refusal) = Err refusal

abbrev pub class_lent : Result (Bor (List ℕ)) ParseError → Result (List ℕ) ParseError
class_lent (Ok name) = Ok name.now
class_lent (Err refusal) = Err refusal

-- the bytes of a list, if there is one
abbrev pub bytes_held : {A : Type 0} → Option (Vec ℕ A) → Option (List ℕ)
bytes_held None = None
bytes_held (Some bytes) = Some bytes.items
