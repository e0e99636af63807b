-- The classes of a tree, with one more file.
use Rattle.std.specs.Prelude.{ℕ, cond, List, Option, Some, None, option_map, Result, Ok, Err}
use Rattle.std.specs.FinMap as map
use Rattle.jc_view.specs.declared.parse_error.ParseError.{ParseError}
use Rattle.jc_view.specs.ClassFile.{ClassFile}
use Rattle.jc_classes.specs.Facts.{Facts}
use Rattle.jc_classes.specs.FactsOf.{facts_of}
use Rattle.jc_classes.specs.Names.{Name}
use Rattle.jc_link.specs.Tables.{Places, class_at, class_found}
use Rattle.jc_report.specs.Winners.{wins}

-- the path of the file from which the class of a name is taken
abbrev pub path_kept : Places → Name → Option (List ℕ)
path_kept places name = option_map (λ facts. facts.path) (class_found places name)

-- a class that the one from the path replaced is put back if its file wins
abbrev pub put_back : Option Facts → List ℕ → Places → Places
put_back None path places = places
put_back (Some before) path places = cond (wins before.path (Some path)) (map.insert places before.name (Some before)) places

-- the classes with that from the path added, unless the class of its name is from a file that wins
abbrev pub kept : Places → List ℕ → Facts → Places
kept places path facts = put_back (class_at places facts.name) path (map.insert places facts.name (Some facts))

abbrev pub kept_read : Places → List ℕ → Result ClassFile ParseError → Places
kept_read places path (Ok c) = kept places path (facts_of path c)
kept_read places path (Err refusal) = places

-- the one of two classes of one name that is kept
abbrev pub stays : List ℕ → Facts → Option Facts → Facts
stays path facts None = facts
stays path facts (Some before) = cond (wins before.path (Some path)) before facts
