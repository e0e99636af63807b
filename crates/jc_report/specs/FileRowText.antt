-- The line of a file in the report.
use Rattle.std.specs.Prelude.{ℕ, List, ◌++◌, codes, decimal}
use Rattle.jc_text.specs.Escapes.{path_text, shown}
use Rattle.jc_view.specs.declared.parse_error.ParseError.{ParseError}
use Rattle.jc_view.specs.declared.parse_error.ParseError.TheVariants as errors
use Rattle.jc_view.specs.Refusal.{refusal_number}
use Rattle.jc_report.specs.FileRows.{FileState, Class, Shadowed, Unreadable, FileRow}

-- a place in the file, in parentheses
abbrev pub at_text : ℕ → List ℕ
at_text place = codes "(" ++ decimal place ++ codes ")"

-- the name of a refusal, and its place if it has one
abbrev pub refusal_name : ParseError → List ℕ
refusal_name errors.Magic = codes "Magic"
refusal_name errors.Version = codes "Version"
refusal_name errors.Count = codes "Count"
refusal_name (errors.Tag at) = codes "Tag" ++ at_text at
refusal_name (errors.Wide at) = codes "Wide" ++ at_text at
refusal_name (errors.Trailing at) = codes "Trailing" ++ at_text at
refusal_name errors.Short = codes "Short"
refusal_name errors.NoName = codes "NoName"
refusal_name errors.NoMemory = codes "NoMemory"

abbrev pub refusal_text : ParseError → List ℕ
refusal_text e = decimal (refusal_number e) ++ codes " " ++ refusal_name e

abbrev pub state_text : FileState → List ℕ
state_text (Class name) = codes "class " ++ shown name
state_text (Shadowed name winner) = codes "shadowed " ++ shown name ++ codes " by " ++ path_text winner
state_text (Unreadable refusal) = codes "unreadable " ++ refusal_text refusal

abbrev pub row_text : FileRow → List ℕ
row_text row = path_text row.path ++ codes ": " ++ state_text row.state ++ codes "\n"
