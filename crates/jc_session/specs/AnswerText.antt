-- The texts of the answers to edits, unread paths and `dependants`.
use Rattle.std.specs.Prelude.{List, [], ◌∷◌, ℕ, ◌++◌, codes, decimal}
use Rattle.std.specs.List.{flat_map}
use Rattle.jc_input.specs.declared.edit.EditError.{EditError}
use Rattle.jc_input.specs.EditErrors.{edit_code, edit_error_name}
use Rattle.jc_text.specs.Escapes.{path_text}
use Rattle.jc_classes.specs.Names.{Name}
use Rattle.jc_report.specs.ReportText.{name_line}

-- the answer to an edit that is refused
abbrev pub refused_text : EditError → List ℕ
refused_text e = codes "refused " ++ decimal (edit_code e) ++ codes " " ++ edit_error_name e ++ codes "\n"

-- the answer to a line with a path whose bytes the source does not return
abbrev pub unread_text : List ℕ → List ℕ
unread_text path = codes "unread " ++ path_text path ++ codes "\n"

-- the names, each on a line of its own, or `none` if there is no name
abbrev pub names_text : List Name → List ℕ
names_text [] = codes "none\n"
names_text (name ∷ names) = flat_map name_line (name ∷ names)
