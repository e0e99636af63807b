-- Byte strings, such as texts, names and paths, and their order.
use Rattle.std.specs.Prelude.{ℕ, Bool, List}
use Rattle.std.specs.declared.cmp.Ordering.{Ordering}
use Rattle.std.specs.Ordering.{nat_cmp}
use Rattle.std.specs.Cmp.Lexicographic.{slice_cmp}
use Rattle.std.specs.Str.{bytes_eq}

-- the first byte that differs decides; if none does, the shorter string is less
abbrev pub bytes_cmp : List ℕ → List ℕ → Ordering
bytes_cmp = slice_cmp nat_cmp

-- two strings have the same bytes
abbrev pub same_bytes : List ℕ → List ℕ → Bool
same_bytes = bytes_eq
