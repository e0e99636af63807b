-- How the steps of `parse` move a cursor.
use Rattle.std.specs.Prelude.{◌≡◌, ℕ, List, Option, Some, None, Result, Ok, Err}
use Rattle.jc_base.specs.Cursor.{Reading}
use Rattle.jc_view.specs.declared.parse_error.ParseError.{ParseError}
use Rattle.jc_view.specs.declared.parse_error.ParseError.TheVariants as errors
use Rattle.jc_view.specs.Moves.{KeepsEnd}
use Rattle.jc_view.specs.Reading.{head_at}

-- Some: the cursor is at the end of the part; None: the bytes end before the part does
abbrev pub MovesBehind : {X : Type 0} → (List ℕ → Option (List ℕ)) → Reading → Option X → Reading → Type 0
MovesBehind after_part old None new = after_part old.rest ≡ None
MovesBehind after_part old (Some x) new = (after_part old.rest ≡ Some new.rest) × KeepsEnd old new

-- the error is the one of the definition; `NoMemory` is always allowed
abbrev pub Fails : {A : Type 0} → ParseError → Result A ParseError → Type 0
Fails errors.NoMemory read = Unit {0}
Fails e read = read ≡ Err e

-- Ok: the value of the definition, and the cursor is where the definition stops
abbrev pub Takes : {X A : Type 0} → (X → A) → (Reading → Result (A × Reading) ParseError)
    → Reading → Result X ParseError → Reading → Type 0
Takes view read old (Ok x) new = read old ≡ Ok (view x, new)
Takes view read old (Err e) new = Fails e (read old)

-- the bytes before the constants are there and are valid
abbrev pub HasGoodHead : Reading → Type 0
HasGoodHead old = (head : ℕ × Reading) × (head_at old ≡ Ok head)
