-- The report of files and outside prefixes.
use Rattle.std.specs.Prelude.{◌≡◌, ℕ, ◌==◌, Bool, true, false, ◌||◌, not, List, map, length}
use Rattle.std.specs.Prelude.{Option, Some, None, Result, Ok, Err, option_and_then}
use Rattle.std.specs.FinMap as fin
use Rattle.std.specs.List.{All, Contains, filter, list_any}
use Rattle.std.specs.List.Sorted.{IsStrictlySortedBy}
use Rattle.jc_view.specs.declared.parse_error.ParseError.{ParseError}
use Rattle.jc_view.specs.ClassFile.{ClassFile}
use Rattle.jc_view.specs.Outcome.{class_read}
use Rattle.jc_classes.specs.Facts.{Facts}
use Rattle.jc_classes.specs.FactsOf.{facts_of}
use Rattle.jc_classes.specs.Loading.{Loading}
use Rattle.jc_classes.specs.Loading.{Loading as loading}
use Rattle.jc_classes.specs.Names.{Name, name_cmp}
use Rattle.jc_classes.specs.Parts.{IsPart, Part}
use Rattle.jc_classes.specs.Resolution.{Answer}
use Rattle.jc_classes.specs.Resolution.{Answer as answer}
use Rattle.jc_classes.specs.Worlds.{World}
use Rattle.jc_link.specs.Prefixes.{is_covered}
use Rattle.jc_link.specs.Tables.{or_built_in, stands_by}
use Rattle.jc_report.specs.Files.{Files}
use Rattle.jc_report.specs.FileRows.{FileRow, is_unreadable, rows, winner}
use Rattle.jc_report.specs.Rows.{Row, AreRows}
use Rattle.jc_report.specs.ClassRows.{provided_rows, required_rows}

-- ---- the world of files and outside prefixes

-- the facts of the file at a path by the outcome of reading it: None at a refusal
abbrev pub facts_by : List ℕ → Result ClassFile ParseError → Option Facts
facts_by path (Ok c) = Some (facts_of path c)
facts_by path (Err refusal) = None

-- the facts of the file at a path by its bytes: None if there is no file or its bytes are not readable
abbrev pub facts_there : List ℕ → Option (List ℕ) → Option Facts
facts_there path bytes = option_and_then (λ b. facts_by path (class_read b)) bytes

-- the facts that the files give for a name: those of its winner, the file with the least path that names the class
abbrev pub facts_at : Files → Name → Option Facts
facts_at f name = option_and_then (λ path. facts_there path (fin.get f path)) (winner f name)

-- what each name is: the class of its winner, else the built-in java/lang/Object, else outside if it begins with one of
-- the prefixes, else nothing
abbrev pub world_of : Files → List Name → World
world_of f prefixes name = stands_by (or_built_in (facts_at f name) name) (is_covered prefixes name)

-- ---- reports

-- a class of the tree, with its part
pub record Class : Type 0 where
  pub facts : Facts
  pub part : Part

-- a report as data; `IsReport` says which one is the report of given files and prefixes
pub record Report : Type 0 where
  -- in ascending order of path
  pub files : List FileRow
  -- the classes that the files give, in ascending order of name
  pub classes : List Class
  -- the names of the classes that are their own transitive supertypes, in ascending order
  pub circular : List Name
  pub provided : List Row
  pub required : List Row

abbrev pub name_of : Class → Name
name_of c = c.facts.name

-- the names of those of the classes whose part is circular
abbrev pub circular_names : List Class → List Name
circular_names classes = map name_of (filter (λ c. c.part.circular) classes)

-- the files give these facts for the name of the class, and its part is the one in the world of the files and prefixes
pub record IsClassOf (f : Files) (prefixes : List Name) (c : Class) : Type 0 where
  pub facts : facts_at f (name_of c) ≡ Some c.facts
  pub part : IsPart (world_of f prefixes) (name_of c) c.part

-- one of the classes gives the row; the function `rows` returns the rows that a class gives, by its facts and part
pub record GivesRow (rows : Facts → Part → List Row) (classes : List Class) (row : Row) : Type 0 where
  pub class : Class
  pub among : Contains classes class
  pub gives : Contains (rows class.facts class.part) row

-- r is the report of the files and prefixes: it has a row for each file and exactly one entry for each class that the
-- files give. The circular names and both lists of rows are those of these classes
pub record IsReport (f : Files) (prefixes : List Name) (r : Report) : Type 0 where
  pub files : r.files ≡ rows f
  pub rises : IsStrictlySortedBy name_cmp (map name_of r.classes)
  pub sound : All (IsClassOf f prefixes) r.classes
  pub complete : (name : Name) (c : Facts) → facts_at f name ≡ Some c → Contains (map name_of r.classes) name
  pub circular : r.circular ≡ circular_names r.classes
  pub provided : AreRows r.provided (GivesRow provided_rows r.classes)
  pub required : AreRows r.required (GivesRow required_rows r.classes)

-- ---- what is wrong

abbrev pub is_load_error : Loading → Bool
is_load_error loading.Loaded = false
is_load_error loading.Outside = false
is_load_error (loading.Fails e x) = true

abbrev pub is_error : Answer → Bool
is_error (answer.ToClass c flags) = false
is_error (answer.ToMember c x) = false
is_error (answer.Outside n) = false
is_error answer.NotLoaded = false
is_error (answer.Error e n) = true

-- the part has a format fault, a code fault, a load error, an instruction that does not link or an answer that is an
-- error
abbrev pub is_wrong_part : Part → Bool
is_wrong_part p =
    not (length p.format_faults == 0) || not (length p.code_faults == 0) || is_load_error p.load
    || not (length p.links == 0) || list_any is_error p.answers

-- a file is unreadable, or the part of a class is wrong
abbrev pub is_wrong : Report → Bool
is_wrong r = list_any is_unreadable r.files || list_any (λ c. is_wrong_part c.part) r.classes
