-- What was written after several calls.
use Rattle.std.proofs.Common.{◌+◌, ◌++◌, ℕ, List, Option, length, take, arith, length-append}
use Rattle.std.proofs.lemmas.List.{take-append-le}
use Rattle.std.proofs.Math.Seq.{take-append-add}
use Rattle.std.proofs.KnownBytes.{Appends-trans}
use Rattle.std.specs.Io.KnownBytes.{Appends}
use Rattle.jc_base.specs.Device.{WritesFront}

-- a beginning of the first text is one of the two together
pub front_of_first : (old new : Option (List ℕ)) (first second : List ℕ) → WritesFront old new first → WritesFront old new (first ++ second)
front_of_first old new first second (n, within, appends) =
    (n, omega (arith, length-append first second, within), rw (take-append-le n first second (omega (arith, within))) appends)

-- the first text, and then a beginning of the second
pub front_of_second : (old mid new : Option (List ℕ)) (first second : List ℕ) → Appends old mid first → WritesFront mid new second → WritesFront old new (first ++ second)
front_of_second old mid new first second whole (n, within, appends) =
    (length first + n, omega (arith, length-append first second, within), rw (take-append-add first second n) (Appends-trans old mid new first (take n second) whole appends))
