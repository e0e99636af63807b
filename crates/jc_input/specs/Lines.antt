-- The lines of an input, and their commands.
use Rattle.std.specs.Prelude.{ℕ, ◌==◌, nat_eq, nat_lt, List, [], ◌∷◌, length, drop, Bool, if◌then◌else◌, codes}
use Rattle.std.specs.List.{starts_with}
use Rattle.jc_base.specs.Bytes.{same_bytes}

-- a byte before the first line; without lines it is the only line
abbrev pub onto_first : ℕ → List (List ℕ) → List (List ℕ)
onto_first x [] = (x ∷ []) ∷ []
onto_first x (line ∷ lines) = (x ∷ line) ∷ lines

-- The lines of an input, without the LF that ends each. A last line without an LF counts if it has a byte.
abbrev pub lines_of : List ℕ → List (List ℕ)
lines_of [] = []
lines_of (x ∷ input) = if x == 10 then [] ∷ lines_of input else onto_first x (lines_of input)

-- a byte before the first line; a last line without an LF is left out
abbrev pub onto_whole : ℕ → List (List ℕ) → List (List ℕ)
onto_whole x [] = []
onto_whole x (line ∷ lines) = (x ∷ line) ∷ lines

-- the lines of an input that end with an LF, without it
abbrev pub whole_lines : List ℕ → List (List ℕ)
whole_lines [] = []
whole_lines (x ∷ input) = if x == 10 then [] ∷ whole_lines input else onto_whole x (whole_lines input)

-- the command of a line
pub data Command : Type 0 where
  Add : (path : List ℕ) → Command
  Replace : (path : List ℕ) → Command
  Remove : (path : List ℕ) → Command
  AddPrefix : (prefix : List ℕ) → Command
  DropPrefix : (prefix : List ℕ) → Command
  Report : Command
  Part : (name : List ℕ) → Command
  Listing : (name : List ℕ) → Command
  Dependants : (name : List ℕ) → Command
  End : Command
  Bad : Command

abbrev pub begins_with_word : List ℕ → List ℕ → Bool
begins_with_word word line = starts_with nat_eq line word

-- The path, the prefix or the name is all that follows the command and a space. A line that is no command is bad, and
-- so is a line over 8,192 bytes.
abbrev pub command_of : List ℕ → Command
command_of line =
    if nat_lt 8192 (length line) then Bad
    else (if begins_with_word (codes "add ") line then Add (drop 4 line)
    else (if begins_with_word (codes "replace ") line then Replace (drop 8 line)
    else (if begins_with_word (codes "remove ") line then Remove (drop 7 line)
    else (if begins_with_word (codes "outside add ") line then AddPrefix (drop 12 line)
    else (if begins_with_word (codes "outside drop ") line then DropPrefix (drop 13 line)
    else (if same_bytes line (codes "report") then Report
    else (if begins_with_word (codes "part ") line then Part (drop 5 line)
    else (if begins_with_word (codes "list ") line then Listing (drop 5 line)
    else (if begins_with_word (codes "dependants ") line then Dependants (drop 11 line)
    else (if same_bytes line (codes "end") then End
    else Bad))))))))))
