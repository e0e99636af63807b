-- Inputs that have ended.
use Rattle.std.specs.Prelude.{◌≡◌, ℕ, List, [], Option, Some, None, unwrap_or}
use Rattle.std.specs.Io.KnownBytes.{IsAtEnd}

-- an input is at its end if its remaining bytes are empty; None, for unknown bytes, counts as empty
pub is_at_end-of : (bytes : Option (List ℕ)) → unwrap_or bytes [] ≡ [] → IsAtEnd bytes
is_at_end-of None h = tt
is_at_end-of (Some xs) h = h
