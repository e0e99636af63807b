-- The text of the listing of a file, and of the file that gives a class.
use Rattle.std.specs.Prelude.{ℕ, Bool, true, List, ◌++◌, Result, Ok, Err, option_and_then, codes}
use Rattle.std.specs.FinMap as map
use Rattle.std.specs.Option.{option_map_or}
use Rattle.jc_view.specs.declared.parse_error.ParseError.{ParseError}
use Rattle.jc_view.specs.ClassFile.{ClassFile}
use Rattle.jc_view.specs.Outcome.{class_read}
use Rattle.jc_list.specs.Listing.{listing}
use Rattle.jc_list.specs.FaultLines.{is_faulty}
use Rattle.jc_report.specs.Files.{Files}
use Rattle.jc_report.specs.FileRows.{winner}
use Rattle.jc_report.specs.FileRowText.{refusal_text}

-- the line for bytes that are not a readable class file
abbrev pub unreadable_text : ParseError → List ℕ
unreadable_text refusal = codes "unreadable " ++ refusal_text refusal ++ codes "\n"

-- the listing of a class file, or the line for a refusal
abbrev pub text_by : Result ClassFile ParseError → List ℕ
text_by (Ok c) = listing c
text_by (Err refusal) = unreadable_text refusal

-- whether a class file has a fault, or there is a refusal
abbrev pub faulty_by : Result ClassFile ParseError → Bool
faulty_by (Ok c) = is_faulty c
faulty_by (Err refusal) = true

-- the listing of the class file with these bytes, or why they are not a readable class file
abbrev pub file_text : List ℕ → List ℕ
file_text bytes = text_by (class_read bytes)

-- whether the bytes are not a readable class file, or have a fault
abbrev pub is_faulty_file : List ℕ → Bool
is_faulty_file bytes = faulty_by (class_read bytes)

-- the listing of the file that is the winner of a class, or `none` if no file names the class
abbrev pub listed_text : Files → List ℕ → List ℕ
listed_text f name = option_map_or file_text (option_and_then (map.get f) (winner f name)) (codes "none\n")
