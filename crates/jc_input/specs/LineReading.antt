-- Lines of an input that is partly read.
use Rattle.std.specs.Prelude.{◌≡◌, ℕ, ◌==◌, Bool, true, false, List, [], ◌∷◌, ◌++◌, take, Option, Some, None, ⊤}
use Rattle.std.specs.List.{list_any}
use Rattle.std.specs.Io.KnownBytes.{prepend_known}

abbrev pub is_line_feed : ℕ → Bool
is_line_feed byte = byte == 10

abbrev pub LacksFeed : List ℕ → Type 0
LacksFeed xs = list_any is_line_feed xs ≡ false

-- the bytes of a line that are kept: at most 8,193, since a line over 8,192 bytes is bad
abbrev pub kept_of : List ℕ → List ℕ
kept_of line = take 8193 line

-- the bytes that were read ahead and those that the input still has, if these are known
abbrev pub bytes_left : List ℕ → Option (List ℕ) → Option (List ℕ)
bytes_left held coming = prepend_known held coming

-- the first line was taken from the bytes that were left, if known: a whole line up to its LF, or all bytes if there is
-- no LF
abbrev pub TakesLine : Option (List ℕ) → Bool → (kept : List ℕ) → Option (List ℕ) → Type 0
TakesLine None is_whole kept new = ⊤
TakesLine (Some old) is_whole kept None = ⊥
TakesLine (Some old) true kept (Some new) = (line : List ℕ) × LacksFeed line × (old ≡ line ++ 10 ∷ new) × (kept ≡ kept_of line)
TakesLine (Some old) false kept (Some new) = LacksFeed old × (new ≡ []) × (kept ≡ kept_of old)

-- bytes of the next line were taken, perhaps none, but not its LF
abbrev pub LosesPart : Option (List ℕ) → Option (List ℕ) → Type 0
LosesPart None new = ⊤
LosesPart (Some old) None = ⊥
LosesPart (Some old) (Some new) = (part : List ℕ) × LacksFeed part × (old ≡ part ++ new)
